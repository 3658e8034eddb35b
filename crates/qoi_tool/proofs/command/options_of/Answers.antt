-- The list of the options that begin with a color space, by its bytes.
use Rattle.std.proofs.Common.{rules, arith, ◌≡◌, codes, drop, map, sym, ap, ◌∙◌}
use Rattle.std.proofs.lemmas.List.{take_rest}
use Rattle.std.specs.String.{string_bytes}
use Rattle.qoi_tool.specs.Words.{style_words}
use Rattle.qoi_tool.proofs.WordLists.{word_before}
use Rattle.qoi_tool.proofs.command.options_of.Goals as goal

pub returns-in_ok-style_of-in-len1-up : goal.returns-in_ok-style_of-in-len1-up
returns-in_ok-style_of-in-len1-up c =
    let options = c.args.options.now in
    let is_linear : string_bytes c.option-item.result ≡ codes "linear" = search rules in
    let rest : map string_bytes (drop 1 options) ≡ style_words c.in_ok-style_of-in-len1-up.field-0 =
    sym (ap (map string_bytes) (take_rest options 1)) ∙ c.in_ok-style_of-in-len1-up.ensures in
    word_before options 0 _ _ _ (omega arith) c.option-item.is is_linear rest
