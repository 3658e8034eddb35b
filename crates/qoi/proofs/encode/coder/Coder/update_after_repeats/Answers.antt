-- Repeats are put once, or not at all.
use Rattle.std.proofs.Common.{IsTrue, nat_lt, ◌∷◌, ◌++◌, replicate, sym, ap, ◌∙◌, subst, true}
use Rattle.qoi.specs.Qoi.{Past, previous}
use Rattle.qoi.specs.inner.Coder.{put_in}
use Rattle.qoi.specs.inner.Table.{Holds}
use Rattle.std.specs.List.{list_any}
use Rattle.qoi.proofs.format.ChunkSteps.{previous_repeats}
use Rattle.qoi.proofs.encoding.coder.CoderTable.{fresh_repeats, repeats_unput, repeats_put}
use Rattle.qoi.proofs.encoding.styles.StyledGroup.{placed_repeats}
use Rattle.qoi.proofs.encode.coder.Coder.update_after_repeats.Goals as goal
use Rattle.qoi.proofs.encode.coder.Coder.update_after_repeats.Goals.{in-Reference, in-Tight}

pub returns-clause-state : goal.returns-clause-state
returns-clause-state g c past before s =
    let n = c.args.count in
    let style = c.args.self.now.style in
    let pixels = replicate n (previous past) ++ past in
    record {
      table_is = elim c.match-self.branch [
        | in-Reference w ↦ rw w.table-is (repeats_unput style n past c.args.table.now w.in-Reference.is s.table_is)
        | in-Tight w ↦ (let held = rw w.in-Tight.is at s.table_is in
            let puts : IsTrue (nat_lt 0 n) → (held : Past) → Holds c.args.table.now held → Holds w.put_if.new.self (previous past ∷ held)
            = λ t held h. subst (λ p. Holds w.put_if.new.self (p ∷ held)) s.last_is (w.put_if.ensures.puts t held h) in
            subst (λ t. Holds t (put_in style pixels)) (sym w.table-is)
            (rw w.in-Tight.is (repeats_put n past c.args.table.now w.put_if.new.self puts w.put_if.ensures.stays held)))
      ];
      last_is = s.last_is ∙ sym (previous_repeats n past);
      begun_is = s.begun_is ∙ sym (ap (list_any (λ p. true)) (fresh_repeats n past));
      named_is = λ is. placed_repeats n past before c.args.self.now.last.named (s.named_is is);
    }
