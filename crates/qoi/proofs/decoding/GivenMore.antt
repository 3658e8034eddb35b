-- Steps over the pieces of an image, one after another.
use Rattle.std.proofs.Common.{◌≡◌, ℕ, ◌+◌, ◌-◌, ◌*◌, ◌/◌, ◌≤◌, List, [], ◌++◌, length, take, drop, replicate, min, Bool, Option, Some, Result, MatchOption, arith, refl, sym, ap, ◌∙◌, subst, append-nil, length-append, length-take, length-take-le, take_at}
use Rattle.std.proofs.lemmas.Result.{MatchResult-weaker}
use borrow.Rule.Slice.PartMut.{put_mid, mid_of, mid_len, same_len_mid}
use Rattle.qoi.specs.Qoi.{Error, channels_number}
use Rattle.qoi.specs.declared.types.Channels.TheVariants.{Rgb, Rgba}
use Rattle.qoi.specs.inner.Chunks.{Conversion, RefusesFilling}
use Rattle.qoi.specs.Raw.{IsChannels, raw_per_byte}
use Rattle.qoi.specs.inner.Filling.{Reached, HasWritten, reached, filling}
use Rattle.qoi.specs.inner.Hashed.{pixel_of_lanes}
use Rattle.qoi.specs.pieces.Sizes.{decoded_ahead}
use Rattle.qoi.specs.pieces.Unread.{Refused, Unread, kept_raw, bytes_left, OwesWholePixels, IsUnread, GivesMore, RefusesMore, Asks, Steps, TakesInPlace, IsInPlace}
use Rattle.qoi.proofs.decoding.PieceSteps.{Lent, gives, kept_long, minus_whole, piece_lent, piece_read, read_two, whole_within}
use Rattle.qoi.proofs.decoding.PixelPieces.{in_three}

-- a step that gives none
pub gives_none : {f c : ℕ} {ahead rest : Option (List ℕ)} {old new : Unread}
    → ((n : ℕ) (start : Option (List ℕ)) (given : List ℕ) → IsUnread f c n start ahead given old → IsUnread f c n start rest given new)
    → OwesWholePixels c new → bytes_left new ≡ bytes_left old → new.fault ≡ old.fault → GivesMore f c ahead rest old new [] 0
gives_none {f} {c} {ahead} {rest} {old} {new} read pixels left fault = record {
  read = λ n start given h. subst (λ z. IsUnread f c n start rest z new) (sym (append-nil given)) (read n start given h);
  within = omega arith;
  pixels = pixels;
  left = omega (arith, left);
  fault = fault;
}

-- a step that gives bytes behind those of another
pub gives_two : {f c : ℕ} {ahead middle rest : Option (List ℕ)} {old between new : Unread} {front : List ℕ} {i : ℕ} (more : List ℕ) (j : ℕ)
    → GivesMore f c ahead middle old between front i → GivesMore f c middle rest between new more j → length more ≡ length (mid_of i (length front - i) front)
    → GivesMore f c ahead rest old new (put_mid i (length front - i) front more) (i + j)
gives_two {f} {c} {ahead} {middle} {rest} {old} {between} {new} {front} {i} more j one two same =
    let room = mid_len i (length front) front (omega (arith, one.within)) in
    record {
      read = λ n start given h. subst (λ z. IsUnread f c n start rest z new) (read_two given front more i j one.within two.within)
          (two.read n start _ (one.read n start given h));
      within = omega (arith, same_len_mid i (length front - i) front more same, same, room, one.within, two.within);
      pixels = two.pixels;
      left = omega (arith, one.left, two.left);
      fault = two.fault ∙ one.fault;
    }

-- a step that fills what another left of an output
pub fills_two : {f c : ℕ} {ahead middle rest : Option (List ℕ)} {old between new : Unread} {front : List ℕ} {i : ℕ} (more : List ℕ) (j : ℕ)
    → GivesMore f c ahead middle old between front i → GivesMore f c middle rest between new more j → length more ≡ length (mid_of i (length front - i) front)
    → j ≡ length more → GivesMore f c ahead rest old new (put_mid i (length front - i) front more) (length (put_mid i (length front - i) front more))
fills_two {f} {c} {ahead} {middle} {rest} {old} {between} {new} {front} {i} more j one two same whole =
    let room = mid_len i (length front) front (omega (arith, one.within)) in
    let all : i + j ≡ length (put_mid i (length front - i) front more) = omega (arith, same_len_mid i (length front - i) front more same, same, room, one.within, whole) in
    subst (GivesMore f c ahead rest old new (put_mid i (length front - i) front more)) all (gives_two more j one two same)

-- a step that gives none after another
pub gives_then_none : {f c : ℕ} {ahead middle rest : Option (List ℕ)} {old between new : Unread} {out : List ℕ} {size : ℕ}
    → GivesMore f c ahead middle old between out size → GivesMore f c middle rest between new [] 0 → GivesMore f c ahead rest old new out size
gives_then_none {f} {c} {ahead} {middle} {rest} {old} {between} {new} {out} {size} one two = record {
  read = λ n start given h. subst (λ z. IsUnread f c n start rest z new) (append-nil (given ++ take size out)) (two.read n start _ (one.read n start given h));
  within = one.within;
  pixels = two.pixels;
  left = omega (arith, one.left, two.left);
  fault = two.fault ∙ one.fault;
}

-- a step that is refused after another
pub refused_after : {f c more all : ℕ} {in_memory : Bool} {ahead middle rest : Option (List ℕ)} {old between : Unread} {out : List ℕ} {size : ℕ} {fault : Option Error}
    → GivesMore f c ahead middle old between out size → RefusesMore f c more in_memory middle rest between fault → size + more ≤ all
    → RefusesMore f c all in_memory ahead rest old fault
refused_after {out = out} {size = size} one two fits = record {
  refused = λ n start given h pixels enough. two.refused n start _ (one.read n start given h) pixels
      (enough.0, omega (arith, enough.1, fits, length-append given (take size out), length-take-le size out one.within));
}

-- a step that is refused behind those bytes of an output that another gave
pub refused_two : {f c : ℕ} {in_memory : Bool} {ahead middle rest : Option (List ℕ)} {old between : Unread} {front : List ℕ} {i : ℕ} {fault : Option Error} (more : List ℕ)
    → GivesMore f c ahead middle old between front i → RefusesMore f c (length more) in_memory middle rest between fault
    → length more ≡ length (mid_of i (length front - i) front)
    → RefusesMore f c (length (put_mid i (length front - i) front more)) in_memory ahead rest old fault
refused_two {front = front} {i = i} more one two same =
    let room = mid_len i (length front) front (omega (arith, one.within)) in
    refused_after one two (omega (arith, same_len_mid i (length front - i) front more same, same, room, one.within))

-- a step into three channels of a file of four
pub steps_in_three : (in_memory : Bool) (ahead rest : Option (List ℕ)) (old new : Unread) (out : List ℕ) (result : Result ℕ Refused) (k : Conversion)
    → k.channels ≡ Rgb → k.file_channels ≡ Rgba → Steps 3 3 in_memory ahead rest old new out (λ size. size) result
    → Steps (channels_number k.file_channels) (channels_number k.channels) in_memory ahead rest old new out (λ size. size) result
steps_in_three in_memory ahead rest old new out result k three four h =
    rw (three, four) (MatchResult-weaker result h
    (λ size m. record {
      read = λ n start given before. in_three (m.read n start given (in_three before));
      within = m.within;
      pixels = m.pixels;
      left = m.left;
      fault = m.fault;
    })
    (λ e m. record { refused = λ n start given before. m.refused n start given (in_three before) }))

-- the error of a refusal stands in its place
pub faulted : (Why : Error → Type 0) {fault : Option Error} {e : Error} → fault ≡ Some e → Why e → MatchOption fault ⊥ Why
faulted Why is why = rw is why

-- chunks were refused for an output that was lent
pub refuses_lent : {f c m at size : ℕ} {in_memory : Bool} {ahead rest : Option (List ℕ)} {p : Unread} {out : List ℕ} {fault : Option Error} {e : Error}
    → IsChannels c → length out ≤ size + decoded_ahead → ((n : ℕ) (start : Option (List ℕ)) (given : List ℕ) → IsUnread f c n start ahead given p → Lent f c n m start ahead given p out at)
    → RefusesFilling f c in_memory ahead rest (filling p.table (reached p.last at) out) e → fault ≡ Some e → RefusesMore f c size in_memory ahead rest p fault
refuses_lent {size = size} channels fits lends why is = record {
  refused = λ n start given h all enough. let l = lends n start given h in faulted _ is (why l.gone _ _ l.before all (grind (arith, channels, l.ends, l.most, fits, enough.1)));
}

-- a step after one that gives none
pub gives_after_none : {f c : ℕ} {ahead middle rest : Option (List ℕ)} {old between new : Unread} {out : List ℕ} {size : ℕ}
    → GivesMore f c ahead middle old between [] 0 → GivesMore f c middle rest between new out size → GivesMore f c ahead rest old new out size
gives_after_none {f} {c} {ahead} {middle} {rest} {old} {between} {new} {out} {size} one two = record {
  read = λ n start given h. two.read n start given (subst (λ z. IsUnread f c n start middle z between) (append-nil given) (one.read n start given h));
  within = two.within;
  pixels = two.pixels;
  left = omega (arith, one.left, two.left);
  fault = two.fault ∙ one.fault;
}

-- a piece in place gives what it filled
pub gives_placed : {f c : ℕ} {ahead rest : Option (List ℕ)} {p : Unread} {before out table : List ℕ} {to : Reached} {run : ℕ} (now behind : List ℕ)
    → IsChannels c → Asks c p (length before) → 512 ≤ length before → length before + 256 ≤ p.unstored → length out ≡ length before
    → HasWritten f c before 0 out (0 + c * (p.run / c)) (replicate (p.run / c) (pixel_of_lanes p.last))
    → TakesInPlace f c ahead rest (filling p.table (reached p.last p.run) (take (length before / c * c) out)) table now to run
    → IsInPlace c (length now) to run → length now ≡ length (take (length before / c * c) out)
    → GivesMore f c ahead rest p (record p { table = table; last = to.last; run = run; unstored = p.unstored - to.at }) (now ++ behind) to.at
gives_placed {f} {c} {ahead} {rest} {p} {before} {out} {table} {to} {run} now behind is asks long fits same written takes sizes size =
    let whole = asks.pixels in
    let room : to.at + 256 ≤ p.unstored = omega (arith, sizes.within, size, length-take (length before / c * c) out, whole_within c (length before) is, fits) in
    let short : run ≤ raw_per_byte = grind (arith, is, sizes.run_short) in
    record {
      read = λ n start given h.
          let l = piece_lent p before out is h asks.none whole long fits same written in
          piece_read l.gone now behind to run h asks.none l.so_far (takes l.gone _ _ l.before) sizes.within (omega (arith, room));
      within = omega (arith, sizes.within, length-append now behind);
      pixels = (whole.0, minus_whole c p.unstored to.at is whole.1 sizes.whole, sizes.run_whole, sizes.run_short, λ some. omega (arith, short, room));
      left = omega (arith, room);
      fault = refl;
    }

-- kept bytes are given
pub gives_kept : {f c : ℕ} {ahead : Option (List ℕ)} (p new : Unread) (old out : List ℕ) (k : ℕ) → OwesWholePixels c p → k ≡ min (length old) (p.to - p.from)
    → out ≡ take k (kept_raw p) ++ drop k old → new ≡ record p { from = p.from + k } → GivesMore f c ahead ahead p new out k
gives_kept {f} {c} {ahead} p new old out k pixels few out_is is =
    let within = pixels.0 in
    let then : Unread = record p { from = p.from + k } in
    let front = take k (kept_raw p) in
    let size : length front ≡ k = length-take-le k (kept_raw p) (omega (arith, few, kept_long p within)) in
    let same : take k out ≡ front = ap (take k) out_is ∙ take_at front (drop k old) k size in
    subst (λ q. GivesMore f c ahead ahead p q out k) (sym is) (record {
      read = λ n start given h. subst (λ z. IsUnread f c n start ahead (given ++ z) then) (sym same) (gives p then k refl (omega (arith, few)) within h);
      within = omega (arith, ap length out_is, length-append front (drop k old), size);
      pixels = ((omega (arith, few, within), within.1), pixels.1, pixels.2, pixels.3, pixels.4);
      left = omega (arith, few, within);
      fault = refl;
    })
