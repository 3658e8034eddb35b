-- The list of one option, by its bytes.
use Rattle.std.proofs.Common.{rules, arith, ◌≡◌, codes, map}
use Rattle.std.proofs.lemmas.List.{at_drop_all}
use Rattle.std.specs.String.{string_bytes}
use Rattle.qoi_tool.proofs.WordLists.{word_before}
use Rattle.qoi_tool.proofs.command.style_of.Goals as goal

pub returns-in-len1 : goal.returns-in-len1
returns-in-len1 c =
    let options = c.args.options.now in
    let is_places : string_bytes c.option-item.result ≡ codes "places" = search rules in
    word_before options 0 _ _ _ (omega arith) c.option-item.is is_places (at_drop_all (map string_bytes) options 1 (omega arith))

pub returns-in-len1-2 : goal.returns-in-len1-2
returns-in-len1-2 c =
    let options = c.args.options.now in
    let is_tight : string_bytes c.option-item-then-options-lt2.result ≡ codes "tight" = search rules in
    word_before options 0 _ _ _ (omega arith) c.option-item-then-options-lt2.is is_tight (at_drop_all (map string_bytes) options 1 (omega arith))
