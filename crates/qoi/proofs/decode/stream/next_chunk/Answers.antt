-- A first byte, and some of those that it wants, are part of a chunk.
use Rattle.std.proofs.Common.{◌≡◌, ℕ, ◌<◌, ◌≤◌, ◌⊎◌, List, [], ◌∷◌, Option, Result, OnErr, arith, refl}
use Rattle.std.specs.Io.KnownBytes.{Consumes}
use Rattle.std.proofs.lemmas.Bool.Decides.{nat_tests}
use Rattle.qoi.specs.Qoi.{Luma}
use Rattle.qoi.specs.Verdicts.{IsPartOfChunk}
use Rattle.std.proofs.KnownBytes.{Consumes-nil, Consumes-trans}
use Rattle.qoi.proofs.format.PartOfChunk.{byte_and, part_empty, part_luma, part_rgb, part_rgba}
use Rattle.qoi.proofs.Results.{on_err}
use Rattle.qoi.proofs.decoding.StreamReads.{decodes_taken, alone_ahead, rgb_ahead, rgba_ahead}
use Rattle.qoi.proofs.decode.stream.next_chunk.Goals as goal

-- if a read fails, what was taken is part of a chunk
part_taken : {T E : Type 0} (old new : Option (List ℕ)) (r : Result T E) (taken : List ℕ) → Consumes old new taken → IsPartOfChunk taken
    → OnErr r ((x : List ℕ) × Consumes old new x × IsPartOfChunk x)
part_taken old new r taken took part = on_err r (taken, took, part)

pub returns-in_err-b1-clause-failed : goal.returns-in_err-b1-clause-failed
returns-in_err-b1-clause-failed g c = part_taken _ _ _ [] c.in_err-b1.ensures.failed (part_empty [] (omega arith))

pub returns-in_err-b2-clause-failed : goal.returns-in_err-b2-clause-failed
returns-in_err-b2-clause-failed g c =
    let first = c.in_ok-b1.b1 in
    let luma = c.is_luma.ensures in
    part_taken _ _ _ (first ∷ []) (Consumes-trans _ _ _ (first ∷ []) [] c.in_ok-b1.ensures.read c.in_err-b2.ensures.failed)
    (part_luma (first ∷ []) (byte_and first [] (omega arith) (λ i. omega arith)) (omega arith) (grind (arith, nat_tests)) (grind (arith, nat_tests)))

pub returns-in_err-read_exact-clause-failed : goal.returns-in_err-read_exact-clause-failed
returns-in_err-read_exact-clause-failed g c =
    let f = c.in_err-read_exact.ensures.failed in
    let first = c.in_ok-b1.b1 in
    part_taken _ _ _ (first ∷ f.0) (Consumes-trans _ _ _ (first ∷ []) f.0 c.in_ok-b1.ensures.read f.1)
    (part_rgb (first ∷ f.0) (byte_and first f.0 (omega arith) f.2.1) (omega (arith, f.2.0)) c.if-b1.true)

pub returns-in_err-read_exact-2-clause-failed : goal.returns-in_err-read_exact-2-clause-failed
returns-in_err-read_exact-2-clause-failed g c =
    let f = c.in_err-read_exact-2.ensures.failed in
    let first = c.in_ok-b1.b1 in
    let is : first ≡ 255 = omega arith in
    part_taken _ _ _ (first ∷ f.0) (Consumes-trans _ _ _ (first ∷ []) f.0 c.in_ok-b1.ensures.read f.1)
    (part_rgba (first ∷ f.0) (byte_and first f.0 (omega arith) f.2.1) (omega (arith, f.2.0)) is)

pub returns-then-is_luma-clause-read : goal.returns-then-is_luma-clause-read
returns-then-is_luma-clause-read g c =
    let b1 = c.in_ok-b1.b1 in
    let b2 = c.in_ok-b2.b2 in
    let luma = c.is_luma.ensures in
    decodes_taken _ _ _ _ _ b1 (b2 ∷ []) c.in_ok-b1.ensures.read c.in_ok-b2.ensures.read
    (Luma b1 b2, 0 ∷ 0 ∷ 0 ∷ 0 ∷ 0 ∷ 0 ∷ [], (grind (arith, nat_tests), grind (arith, nat_tests), omega arith), refl, refl) c.decode_chunk.ensures.decodes

pub returns-then-b1-lt-QOI_OP_RGB-clause-read : goal.returns-then-b1-lt-QOI_OP_RGB-clause-read
returns-then-b1-lt-QOI_OP_RGB-clause-read g c =
    let b1 = c.in_ok-b1.b1 in
    let luma = c.is_luma.ensures in
    let alone : (b1 < 128) ⊎ ((192 ≤ b1) × (b1 < 254)) = grind (arith, nat_tests) in
    decodes_taken _ _ _ _ _ b1 [] c.in_ok-b1.ensures.read (Consumes-nil _) (alone_ahead b1 (0 ∷ 0 ∷ 0 ∷ 0 ∷ 0 ∷ 0 ∷ 0 ∷ []) alone) c.decode_chunk-then-b1-lt-QOI_OP_RGB.ensures.decodes

pub returns-then-b1-clause-read : goal.returns-then-b1-clause-read
returns-then-b1-clause-read g c =
    let more = c.read_exact.new.buf in
    decodes_taken _ _ _ _ _ _ more c.in_ok-b1.ensures.read c.in_ok-read_exact.ensures.read
    (rgb_ahead c.in_ok-b1.b1 more (0 ∷ 0 ∷ 0 ∷ 0 ∷ []) c.if-b1.true c.read_exact.auto.buf c.read_exact.ensures.bytes) c.decode_chunk-then-b1.ensures.decodes

pub returns-clause-read : goal.returns-clause-read
returns-clause-read g c =
    let more = c.read_exact-2.new.buf in
    decodes_taken _ _ _ _ _ _ more c.in_ok-b1.ensures.read c.in_ok-read_exact-2.ensures.read
    (rgba_ahead c.in_ok-b1.b1 more (0 ∷ 0 ∷ 0 ∷ []) (omega arith) c.read_exact-2.auto.buf c.read_exact-2.ensures.bytes) c.decode_chunk-2.ensures.decodes
