-- After the file's header its bytes are whole.
use Rattle.std.proofs.Common.{◌≡◌, ◌∙◌, ◌++◌, ℕ, List, refl, subst, inl, inr, ⊎_elim, drop}
use Rattle.std.proofs.lemmas.Result.{err_from_is_err_and}
use Rattle.qoi.specs.declared.header.Header.{Header}
use Rattle.qoi.specs.Qoi.{file, pixel_count, header_size}
use Rattle.qoi.specs.Verdicts.{IsWhole}
use Rattle.qoi.specs.Reading.{StandsAhead}
use Rattle.qoi_tool.proofs.tests.library.exact.vector_of_stream.Goals as goal

-- whole bytes are an image that stands ahead
stands : (h : Header) (bytes : List ℕ) → (cs : List _) × (rest : List ℕ) × IsWhole (pixel_count h) bytes cs rest → StandsAhead h bytes
unfolding StandsAhead
stands h bytes whole = whole

pub returns-in_err-decoder : goal.returns-in_err-decoder
returns-in_err-decoder g c h cs rest f told =
    let bytes = file h cs ++ rest in
    let read = c.files_are_read.ensures.read h cs bytes rest f refl in
    let p = err_from_is_err_and c.from_residual.result c.from_residual.ensures.1 in
    let refused = rw told at c.in_err-decoder.ensures.refused.fault in
    rw (p.1, p.2) (inr (refused h read.0))

pub returns-in_err-raw : goal.returns-in_err-raw
returns-in_err-raw g c h cs rest f told =
    let bytes = file h cs ++ rest in
    let read = c.files_are_read.ensures.read h cs bytes rest f refl in
    let d = c.in_ok-decoder.decoder in
    let header = read.0 in
    let found = rw told at c.in_ok-decoder.ensures.accepted.header in
    let same : h ≡ d.header = cc in
    let left = rw told at c.in_ok-decoder.ensures.accepted.after in
    let ahead = subst (λ (k : Header). StandsAhead k (drop header_size bytes)) same (stands h (drop header_size bytes) (cs, rest, read.1)) in
    let p = err_from_is_err_and c.from_residual-in_err-raw.result c.from_residual-in_err-raw.ensures.1 in
    rw (p.1, p.2) (⊎_elim (λ none. inl none.0) (λ r. let fault = rw left at r.fault in inr (fault ahead)) c.in_err-raw.ensures.refused)

pub returns : goal.returns
returns g c h cs rest f told =
    let header = (c.files_are_read.ensures.read h cs (file h cs ++ rest) rest f refl).0 in
    let found = rw told at c.in_ok-decoder.ensures.accepted.header in
    let same : c.in_ok-decoder.decoder.header ≡ h = cc in
    c.header-header.ensures ∙ same
