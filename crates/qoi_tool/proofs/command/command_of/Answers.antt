-- The lists of the words of each command, by their bytes.
use Rattle.std.proofs.Common.{rules, arith, ◌≡◌, ◌++◌, codes, drop, map, sym, ap, ◌∙◌}
use Rattle.std.proofs.lemmas.List.{at_drop_all, take_rest}
use Rattle.std.specs.String.{string_bytes}
use Rattle.qoi_tool.specs.Words.{channels_word, space_words, style_words}
use Rattle.qoi_tool.proofs.WordLists.{word_before}
use Rattle.qoi_tool.proofs.command.command_of.Goals as goal

pub returns-in-len1 : goal.returns-in-len1
returns-in-len1 c =
    let words = c.args.words.now in
    let is_dec : string_bytes c.word-item.result ≡ codes "dec" = search rules in
    word_before words 0 _ _ _ (omega arith) c.word-item.is is_dec (at_drop_all (map string_bytes) words 1 (omega arith))

pub returns-in-len1-2 : goal.returns-in-len1-2
returns-in-len1-2 c =
    let words = c.args.words.now in
    let is_info : string_bytes c.word-item-then-words-lt2.result ≡ codes "info" = search rules in
    word_before words 0 _ _ _ (omega arith) c.word-item-then-words-lt2.is is_info (at_drop_all (map string_bytes) words 1 (omega arith))

pub returns-in_ok-channels_of-in-len2 : goal.returns-in_ok-channels_of-in-len2
returns-in_ok-channels_of-in-len2 c =
    let words = c.args.words.now in
    let is_dec : string_bytes c.word-item-then-words-lt3.result ≡ codes "dec" = search rules in
    let asked : string_bytes c.channels-item.result ≡ channels_word c.in_ok-channels_of-in-len2.field-0 = search rules in
    word_before words 0 _ _ _ (omega arith) c.word-item-then-words-lt3.is is_dec
    (word_before words 1 _ _ _ (omega arith) c.channels-item.is asked (at_drop_all (map string_bytes) words 2 (omega arith)))

pub returns-in_ok-space-in-len3-up : goal.returns-in_ok-space-in-len3-up
returns-in_ok-space-in-len3-up c =
    let words = c.args.words.now in
    let is_enc : string_bytes c.word-item-2.result ≡ codes "enc" = search rules in
    let options : map string_bytes (drop 3 words) ≡ space_words c.in_ok-space-in-len3-up.space ++ style_words c.in_ok-space-in-len3-up.style =
    sym (ap (map string_bytes) (take_rest words 3)) ∙ c.in_ok-space-in-len3-up.ensures in (
      c.as_str-in-len3-up.result.now,
      c.as_str-in-len3-up-2.result.now,
      word_before words 0 _ _ _ (omega arith) c.word-item-2.is is_enc
          (word_before words 1 _ _ _ (omega arith) c.width-item.is (sym c.as_str-in-len3-up.ensures.value)
          (word_before words 2 _ _ _ (omega arith) c.height-item.is (sym c.as_str-in-len3-up-2.ensures.value) options)),
      c.in_ok-width-in-len3-up.ensures,
      c.in_ok-height-in-len3-up.ensures,
    )
