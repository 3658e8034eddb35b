-- What was lent is decoded, and at the end of the image the end marker is taken.
use Rattle.std.proofs.Common.{refl, ◌≡◌, ℕ, ◌+◌, ◌/◌, ◌%◌, ◌<◌, ◌≤◌, ◌-◌, List, take, drop, take-append-drop, length, Option, arith, ◌∙◌, subst, length-take, length-take-le}
use Rattle.qoi.specs.Raw.{IsChannels}
use Rattle.qoi.specs.inner.Chunks.{RefusesChunks}
use Rattle.qoi.specs.pieces.Sizes.{decoded_ahead}
use Rattle.qoi.specs.pieces.Unread.{Unread, KeepsNothing, IsUnread, AreEnough}
use Rattle.qoi.proofs.format.WholePixels.{whole_pixels}
use Rattle.qoi.proofs.decoding.Progress.{none_written}
use Rattle.qoi.proofs.decoding.GivenMore.{faulted, gives_none, refuses_lent}
use Rattle.qoi.proofs.decoding.PieceSteps.{Lent, lent, kept_read, rest_count, rest_read, rest_whole, minus_whole}
use Rattle.qoi.proofs.decode.pixel_reader.unread.Unread.decode_ahead.Goals as goal

-- the front of all room is lent
room_lent : {f c n : ℕ} {start old : Option (List ℕ)} {given : List ℕ} (p : Unread) (room : ℕ) → IsChannels c → IsUnread f c n start old given p
    → KeepsNothing p → room ≤ length p.bytes → room % c ≡ 0 → room < p.unstored → Lent f c n (room / c) start old given p (take room p.bytes) 0
room_lent {c = c} p room is h same within whole long =
    let front = length-take-le room p.bytes within in
    lent (room / c) (take room p.bytes) is h same (omega (arith, long)) (front ∙ whole_pixels c room is whole) (omega (arith, front, long))

-- room for the rest is
rest_lent : {f c n : ℕ} {start old : Option (List ℕ)} {given : List ℕ} (p : Unread) → IsChannels c → IsUnread f c n start old given p
    → KeepsNothing p → length p.bytes ≡ decoded_ahead → 0 < p.unstored → p.unstored ≤ decoded_ahead
    → Lent f c n (p.unstored / c) start old given p (take p.unstored p.bytes) 0
rest_lent {c = c} p is h same size some short =
    let front = length-take-le p.unstored p.bytes (omega (arith, size, short)) in
    lent (p.unstored / c) (take p.unstored p.bytes) is h same some (front ∙ rest_whole is h same.0 some) (omega (arith, front))

-- of an image of which no more bytes are left than may be decoded ahead, only all pixels are enough
all_enough : {f c n all : ℕ} {start old : Option (List ℕ)} {given : List ℕ} {p : Unread} → IsChannels c → IsUnread f c n start old given p → KeepsNothing p
    → p.unstored ≤ decoded_ahead → AreEnough c n (length given + 0) all → n ≡ all
all_enough {n = n} {all} {given = given} {p} is h same short enough =
    grind (arith, is, h.size, same, short, enough.0, enough.1)

pub returns-in-Err-clause-step : goal.returns-in-Err-clause-step
returns-in-Err-clause-step g c =
    refuses_lent c.requires.channels (omega (arith, length-take c.args.room c.args.self.now.bytes, c.requires.room.1)) (λ n start given h. room_lent c.args.self.now c.args.room c.requires.channels h c.requires.none (omega (arith, c.requires.room.1)) c.requires.whole (omega (arith, c.if-self-gt-DECODED_AHEAD.true, c.requires.room.1)))
    c.in-Err.ensures.refused c.fail.ensures

pub returns-then-self-gt-DECODED_AHEAD-clause-step : goal.returns-then-self-gt-DECODED_AHEAD-clause-step
returns-then-self-gt-DECODED_AHEAD-clause-step g c =
    let pixels = c.requires.pixels in
    let out = c.keep_some_chunks-some.new.out in
    let now = c.in-Ok.now in
    let old : length c.args.self.now.bytes ≡ decoded_ahead = omega arith in
    let within : c.args.room ≤ length c.args.self.now.bytes = omega (arith, old, c.requires.room.1) in
    let whole = minus_whole g.row.N c.args.self.now.unstored now.at c.requires.channels pixels.1 c.in-Ok.ensures.read.goes_on.fillable.whole.1 in
    let size = length-take-le c.args.room out (omega (arith, within, c.keep_some_chunks-some.auto.out)) in
    let below = c.in-Ok.ensures.read.goes_on.below refl (omega (arith, size, length-take-le c.args.room c.args.self.now.bytes within, c.requires.room.0)) in
    gives_none (λ n start given h.
    let l = room_lent c.args.self.now c.args.room c.requires.channels h c.requires.none within c.requires.whole (omega (arith, c.if-self-gt-DECODED_AHEAD.true, c.requires.room.1)) in
    subst (λ z. IsUnread g.row.F g.row.N n start (g.R.Chunks.ahead c.keep_some_chunks-some.new.reader) given
    (record c.args.self.now { table = c.keep_some_chunks-some.new.table; last = now.last; bytes = z; from = 0; to = now.at; unstored = c.args.self.now.unstored - now.at })) (take-append-drop c.args.room out)
    (kept_read (take c.args.room out) (drop c.args.room out) c.requires.channels h c.requires.none l (c.in-Ok.ensures.read.goes_on.between l.gone _ _ l.before)
    below (omega (arith, size, c.if-self-gt-DECODED_AHEAD.true, c.requires.room.1))))
    ((omega arith, omega (arith, below, size, c.requires.room.1)), whole, pixels.2, pixels.3, λ some. absurd (omega (arith, some, c.requires.none)))
    (omega (arith, c.requires.none, below, size, c.if-self-gt-DECODED_AHEAD.true, c.requires.room.1)) refl

pub returns-in-Err-rest-clause-step : goal.returns-in-Err-rest-clause-step
returns-in-Err-rest-clause-step g c = record {
  refused = λ n start given h all enough.
      let l = rest_lent c.args.self.now c.requires.channels h c.requires.none (omega arith) c.requires.some (omega (arith, c.if-self-gt-DECODED_AHEAD.false)) in
      let count = rest_count c.requires.channels h c.requires.none l (rest_whole c.requires.channels h c.requires.none.0 c.requires.some) in
      faulted _ c.fail-in-Err-rest.ensures
      (subst (λ k. RefusesChunks g.R.Chunks.in_memory k start (g.R.Chunks.ahead c.keep_rest_of_image-rest.new.reader) c.in-Err-rest.e)
      (count ∙ all_enough c.requires.channels h c.requires.none (omega (arith, c.if-self-gt-DECODED_AHEAD.false)) enough) (c.in-Err-rest.ensures.refused l.gone _ _ l.before));
}

pub returns-clause-step : goal.returns-clause-step
returns-clause-step g c =
    let pixels = c.requires.pixels in
    let size : length c.args.self.now.bytes ≡ decoded_ahead = omega arith in
    let short : c.args.self.now.unstored ≤ decoded_ahead = omega (arith, c.if-self-gt-DECODED_AHEAD.false) in
    gives_none (λ n start given h.
    let l = rest_lent c.args.self.now c.requires.channels h c.requires.none size c.requires.some short in
    rest_read c.keep_rest_of_image-rest.new.out c.requires.channels h c.requires.none l (c.in_default.ensures.read l.gone _ _ l.before)
    (omega (arith, short, size, c.keep_rest_of_image-rest.auto.out)) (rest_whole c.requires.channels h c.requires.none.0 c.requires.some))
    ((omega arith, omega (arith, short, size, c.keep_rest_of_image-rest.auto.out)), none_written g.row.N c.requires.channels, pixels.2, pixels.3, λ some. absurd (omega (arith, some, c.requires.none)))
    (omega (arith, c.requires.none)) refl
