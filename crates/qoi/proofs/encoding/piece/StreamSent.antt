-- What a writer of the standard library, which was a and is b, was sent by reference.
use Rattle.std.proofs.Common.{◌≡◌, ℕ, List, Option, sym, subst}
use Rattle.qoi.specs.inner.Sending.{appended, GoesOn, BreaksOff, Ends, ImageState}
use Rattle.qoi.specs.Writers.{GenericWriter, WroteBut, WroteBeginning, StreamWrote, stream_name}
use Rattle.std.specs.Io.KnownBytes.{Appends}

module _ {W : Type 0} (contents : W → Option (List ℕ)) {s t : GenericWriter W} {a b : W} (value : s.writer.now ≡ a)
    (same : stream_name t ≡ stream_name s → b ≡ t.writer.now) where
  -- all that was written
  pub all_sent_to : {bytes : List ℕ} → StreamWrote contents s bytes t → Appends (contents a) (contents b) bytes
  all_sent_to {bytes} w = subst (λ z. Appends (contents z) (contents b) bytes) value
      (subst (λ z. Appends (contents s.writer.now) (contents z) bytes) (sym (same w.same_writer)) w.appended)

  -- all but a rest
  pub but_sent_to : {bytes rest : List ℕ} → WroteBut (StreamWrote contents) s bytes rest t → WroteBut appended (contents a) bytes rest (contents b)
  but_sent_to w = record { front = w.front; split = w.split; went = all_sent_to w.went }

  module _ {p : ImageState} {kept raw : List ℕ} where
    -- what was unsent, as far as it went on
    pub on_sent_to : {q : ImageState} {kept' raw' : List ℕ} → GoesOn (StreamWrote contents) s p kept raw t q kept' raw'
        → GoesOn appended (contents a) p kept raw (contents b) q kept' raw'
    on_sent_to h = record { opaque = h.opaque; part = h.part; on = λ unsent more z. (let v = h.on unsent more z in (v.0, but_sent_to v.1, v.2)) }

    -- or until it broke off
    pub off_sent_to : BreaksOff (StreamWrote contents) s p kept raw t → BreaksOff appended (contents a) p kept raw (contents b)
    off_sent_to h = record { off = λ unsent more z. (let v = h.off unsent more z in (v.0, but_sent_to v.1)) }

    -- all of it, to the end
    pub ends_sent_to : Ends (StreamWrote contents) s p kept raw t → Ends appended (contents a) p kept raw (contents b)
    ends_sent_to h = record { all = λ unsent z. all_sent_to (h.all unsent z) }

    -- or a beginning
    pub early_sent_to : Ends (WroteBeginning (StreamWrote contents)) s p kept raw t → Ends (WroteBeginning appended) (contents a) p kept raw (contents b)
    early_sent_to h = record { all = λ unsent z. (let v = h.all unsent z in (v.0, but_sent_to v.1)) }
