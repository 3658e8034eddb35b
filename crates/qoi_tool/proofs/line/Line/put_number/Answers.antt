-- A digit is put before the line for each step of the number.
use Rattle.std.proofs.Common.{◌≡◌, ℕ, ◌+◌, ◌<◌, ◌≤◌, ◌/◌, ◌%◌, ◌^◌, List, [], ◌∷◌, ◌++◌, length, drop, arith, sym, ap, ◌∙◌, append_assoc, length-append, length-drop}
use Rattle.std.specs.Fmt.{decimal}
use Rattle.std.proofs.lemmas.Fmt.{decimal_step, decimal_digit, decimal_nonempty, length-decimal-le}
use Rattle.qoi_tool.proofs.line.Line.put_number.Goals as goal

-- while a digit is still to come, at most nine have been put
room_left : (rest n s i : ℕ) (bytes before : List ℕ) → rest < 2 ^ 32 → n < 2 ^ 32 → length bytes ≡ length before → s ≤ length bytes
    → i ≤ length before → decimal rest ++ drop s bytes ≡ decimal n ++ drop i before → i + 1 ≤ s + 10
room_left rest n s i bytes before small fits same within before_within text =
    omega (
      arith,
      ap length text,
      length-append (decimal rest) (drop s bytes),
      length-append (decimal n) (drop i before),
      length-drop s bytes,
      length-drop i before,
      decimal_nonempty rest (omega arith),
      length-decimal-le 10 n (omega arith) (omega arith) (omega arith),
    )

pub put-requires : goal.put-requires
put-requires c =
    let l = c.loop-rest in
    let left = room_left l.rest c.args.n l.self.start c.args.self.now.start l.self.bytes c.args.self.now.bytes l.auto.rest-fits.fits c.ranges.n.fits
    l.invariant.0 l.self.within c.args.self.now.within l.invariant.1 in
    omega (arith, left, c.requires)

pub returns-then-rest-eq0-clause-text : goal.returns-then-rest-eq0-clause-text
returns-then-rest-eq0-clause-text c =
    let l = c.loop-rest in
    let one : l.rest % 10 ≡ l.rest = omega (arith, c.if-rest-eq0.true) in
    c.put.ensures.text ∙ ap (λ d. (48 + d) ∷ drop l.self.start l.self.bytes) one
    ∙ ap (λ front. front ++ drop l.self.start l.self.bytes) (sym (decimal_digit l.rest (omega (arith, c.if-rest-eq0.true)))) ∙ l.invariant.1

pub returns-then-rest-eq0-clause-start : goal.returns-then-rest-eq0-clause-start
returns-then-rest-eq0-clause-start c =
    let l = c.loop-rest in
    let left = room_left l.rest c.args.n l.self.start c.args.self.now.start l.self.bytes c.args.self.now.bytes l.auto.rest-fits.fits c.ranges.n.fits
    l.invariant.0 l.self.within c.args.self.now.within l.invariant.1 in
    omega (arith, left, c.put.ensures.start)

pub loop-rest-preserved : goal.loop-rest-preserved
loop-rest-preserved c =
    let l = c.loop-rest in
    let rest = drop l.self.start l.self.bytes in (
      c.put.ensures.size ∙ l.invariant.0,
      ap (λ t. decimal (l.rest / 10) ++ t) c.put.ensures.text ∙ sym (append_assoc (decimal (l.rest / 10)) ((48 + l.rest % 10) ∷ []) rest)
          ∙ ap (λ front. front ++ rest) (sym (decimal_step l.rest (omega (arith, c.if-rest-eq0.false)) (omega (arith, l.auto.rest-fits.fits)))) ∙ l.invariant.1,
    )
