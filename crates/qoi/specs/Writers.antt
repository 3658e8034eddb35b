-- What a writer's relation promises, and the three writers. `wrote a bytes b` says that the writer a
-- became b by writing the bytes.
use base.Fml.{GName}
use Rattle.std.specs.Prelude.{◌≡◌, ℕ, ◌+◌, List, [], ◌++◌, length, take, drop, Option, Some}
use Rattle.std.specs.Io.KnownBytes.{Appends}
use Rattle.std.proofs.Common.{refl, sym, ap, ◌∙◌, arith, length-append, drop-drop}
use Rattle.std.proofs.KnownBytes.{Appends-nil, Appends-trans}
pub use Rattle.qoi.specs.declared.writers.BytesMut.{BytesMut}
pub use Rattle.qoi.specs.declared.writers.GenericWriter.{GenericWriter}
use Rattle.qoi.specs.declared.writers.VecMut.{VecMut}

-- what each writer proves of its relation
pub record WriterLaws {W : Type 0} (wrote : W → List ℕ → W → Type 0) (room : W → ℕ) : Type 0 where
  -- to write nothing relates each writer to itself
  pub nothing : (w : W) → wrote w [] w
  -- two writings compose
  pub both : (a b c : W) (xs ys : List ℕ) → wrote a xs b → wrote b ys c → wrote a (xs ++ ys) c
  -- the room falls by the number of bytes
  pub counts : (a b : W) (bytes : List ℕ) → wrote a bytes b → room b + length bytes ≡ room a

-- the bytes stand after the first n ones, up to `end`, and all later ones are as before
pub record StandsAfter (old : List ℕ) (n : ℕ) (bytes new : List ℕ) (end : ℕ) : Type 0 where
  pub reached : end ≡ n + length bytes
  pub front : take end new ≡ take n old ++ bytes
  pub later : drop end new ≡ drop end old

-- the bytes were written but for `rest` at their end
pub record WroteBut {W : Type 0} (wrote : W → List ℕ → W → Type 0) (a : W) (bytes rest : List ℕ) (b : W) : Type 0 where
  pub front : List ℕ
  pub split : bytes ≡ front ++ rest
  pub went : wrote a front b

-- a beginning of the bytes was written, perhaps none of them or all
abbrev pub WroteBeginning : {W : Type 0} → (W → List ℕ → W → Type 0) → W → List ℕ → W → Type 0
WroteBeginning wrote a bytes b = (rest : List ℕ) × WroteBut wrote a bytes rest b

-- the bytes that are known grew by a beginning of these
abbrev pub AppendsBeginning : Option (List ℕ) → Option (List ℕ) → List ℕ → Type 0
AppendsBeginning old new bytes = (front : List ℕ) × (rest : List ℕ) × (bytes ≡ front ++ rest) × Appends old new front

module _ {W : Type 0} (name : W → GName) (contents : W → Option (List ℕ)) (left : W → List ℕ) (room : W → ℕ) where
  -- A writer wrote the bytes: it is the same writer, the bytes stand after those before, if these are
  -- known, and its room falls by their number. Those that are left to overwrite, if any, are as before.
  pub record Wrote (a : W) (bytes : List ℕ) (b : W) : Type 0 where
    pub same_writer : name b ≡ name a
    pub appended : Appends (contents a) (contents b) bytes
    pub later : left b ≡ drop (length bytes) (left a)
    pub counted : room b + length bytes ≡ room a

  -- this relation meets the laws
  pub wrote_laws : WriterLaws Wrote room
  wrote_laws = record {
    nothing = λ a. record { same_writer = refl; appended = Appends-nil (contents a); later = refl; counted = omega arith };
    both = λ a b c xs ys p q. record {
      same_writer = q.same_writer ∙ p.same_writer;
      appended = Appends-trans (contents a) (contents b) (contents c) xs ys p.appended q.appended;
      later = q.later ∙ ap (drop (length ys)) p.later ∙ drop-drop (length ys) (length xs) (left a)
          ∙ ap (λ n. drop n (left a)) (sym (length-append xs ys));
      counted = omega (arith, p.counted, q.counted, length-append xs ys);
    };
    counts = λ a b bytes p. p.counted;
  }

-- which buffer a writer has
abbrev pub buffer_name : BytesMut → GName
buffer_name s = s.buf.ghost_name

-- the bytes that a buffer's writer has written so far
abbrev pub written_bytes : BytesMut → List ℕ
written_bytes s = take s.written s.buf.now

-- the bytes of the buffer that aren't yet overwritten
abbrev pub bytes_left : BytesMut → List ℕ
bytes_left s = drop s.written s.buf.now

-- a buffer is written from the front
abbrev pub BufferWrote : BytesMut → List ℕ → BytesMut → Type 0
BufferWrote = Wrote buffer_name (λ s. Some (written_bytes s)) bytes_left (λ s. length (bytes_left s))

-- a vector is appended to within its capacity
abbrev pub VecWrote : VecMut → List ℕ → VecMut → Type 0
VecWrote = Wrote (λ s. s.vec.ghost_name) (λ s. Some s.vec.now.items) (λ _. []) (λ s. s.room)

-- which writer of the standard library it is
abbrev pub stream_name : {W : Type 0} → GenericWriter W → GName
stream_name s = s.writer.ghost_name

-- that writer as it stands
abbrev pub stream_writer : {W : Type 0} → GenericWriter W → W
stream_writer s = s.writer.now

-- how many bytes it can still be given
abbrev pub stream_room : {W : Type 0} → GenericWriter W → ℕ
stream_room s = s.room

-- a writer of the standard library, by reference, whose contract may state its bytes
abbrev pub StreamWrote : {W : Type 0} → (W → Option (List ℕ)) → GenericWriter W → List ℕ → GenericWriter W → Type 0
StreamWrote contents = Wrote stream_name (λ s. contents (stream_writer s)) (λ _. []) stream_room
