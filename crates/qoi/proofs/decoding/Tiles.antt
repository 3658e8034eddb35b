-- Files at offsets of longer bytes: they are put, stay, and are read.
use Rattle.std.proofs.Common.{◌≡◌, ◌≤◌, ℕ, List, [], ◌++◌, Option, None, Some, Result, Ok, IfSome, length, take, drop, refl, arith, ap, sym, subst, ◌∙◌, append-nil, length-append, length-drop}
use lib.Seq.{take-append_seam, drop-append-le, drop-append_seam}
use Rattle.std.specs.Io.KnownBytes.{Appends}
use Rattle.qoi.specs.Styles.{Style}
use Rattle.qoi.specs.Encoded.{IsFileOf}
use Rattle.qoi.specs.Qoi.{Error, Header, file, header_of}
use Rattle.qoi.specs.Decoding.{DecodesFile}
use Rattle.qoi.specs.Images.{file_image, file_rest, BeginsWithFile}
use Rattle.qoi.specs.Tiles.{HasTile, HasPicture}
use Rattle.qoi.proofs.decoding.Ahead.{file_ahead}
use Rattle.qoi.proofs.decoding.FrontImage.{file_image_is, file_rest_is, decodes_more}

-- a tile lies within the bytes
pub tile_within : (bytes raw : List ℕ) (offset : ℕ) → HasTile bytes offset raw → offset ≤ length bytes
tile_within bytes raw offset t =
    let size = length-append (file t.header t.decodes.cs) t.rest in
    omega (arith, length-drop offset bytes, ap length t.decodes.split, size)

-- bytes from which a file is decoded begin with it
pub file_in_front : (bytes : List ℕ) (h : Header) (rest out : List ℕ) → DecodesFile bytes h rest out → BeginsWithFile bytes
file_in_front bytes h rest out f =
    let split : bytes ≡ file h f.cs ++ file_rest bytes = f.split ∙ ap (λ z. file h f.cs ++ z) (file_rest_is bytes h rest out f) in
    record { header = h; cs = f.cs; is_file = f.is_file; split = split; size = sym (ap length split ∙ length-append (file h f.cs) (file_rest bytes)) }

-- a file at an offset, with its header
picture_of : (bytes raw : List ℕ) (offset : ℕ) (h : Header) (rest : List ℕ) → DecodesFile (drop offset bytes) h rest raw → HasPicture bytes offset h raw
picture_of bytes raw offset h rest f =
    let image = sym (file_image_is (drop offset bytes) h rest raw f) in
    record {
      rest = rest;
      decodes = f;
      tile = record { header = h; rest = rest; decodes = f; image = image };
      header = f.header;
      image = image;
      stands = file_in_front (drop offset bytes) h rest raw f;
    }

-- a file that is appended is a picture at the end
pub picture_file : (bytes : List ℕ) (h : Header) (rest raw old new : List ℕ) → DecodesFile bytes h rest raw → new ≡ old ++ bytes
    → HasPicture new (length old) h raw
picture_file bytes h rest raw old new f is =
    let at : drop (length old) new ≡ bytes = ap (drop (length old)) is ∙ drop-append_seam old bytes in
    picture_of new raw (length old) h rest (subst (λ z. DecodesFile z h rest raw) (sym at) f)

-- so it is a tile
pub file_put : (bytes : List ℕ) (h : Header) (rest raw old new : List ℕ) → DecodesFile bytes h rest raw → new ≡ old ++ bytes → HasTile new (length old) raw
file_put bytes h rest raw old new f is = (picture_file bytes h rest raw old new f is).tile

-- likewise the file of an image
pub picture_put : (style : Style) (h : Header) (raw bytes old new : List ℕ) → IsFileOf style h raw bytes → new ≡ old ++ bytes → HasPicture new (length old) h raw
picture_put style h raw bytes old new f is = picture_file bytes h [] raw old new (file_ahead style h raw bytes [] bytes f (sym (append-nil bytes))) is

-- so it is a tile
pub tile_put : (style : Style) (h : Header) (raw bytes old new : List ℕ) → IsFileOf style h raw bytes → new ≡ old ++ bytes → HasTile new (length old) raw
tile_put style h raw bytes old new f is = (picture_put style h raw bytes old new f is).tile

-- and pictures before it stay where they are, whatever is appended
pub picture_kept : (raw old new more : List ℕ) (offset : ℕ) (h : Header) → new ≡ old ++ more → HasPicture old offset h raw → HasPicture new offset h raw
picture_kept raw old new more offset h is p =
    let at : drop offset new ≡ drop offset old ++ more = ap (drop offset) is ∙ drop-append-le offset old more (tile_within old raw offset p.tile) in
    picture_of new raw offset h (p.rest ++ more)
    (subst (λ z. DecodesFile z h (p.rest ++ more) raw) (sym at) (decodes_more (drop offset old) more h p.rest raw p.decodes))

-- so do tiles
pub tile_kept : (tile old new more : List ℕ) (offset : ℕ) → new ≡ old ++ more → HasTile old offset tile → HasTile new offset tile
tile_kept tile old new more offset is t =
    (picture_kept tile old new more offset t.header is (picture_of old tile offset t.header t.rest t.decodes)).tile

-- its image is read at its offset
pub tile_read : (bytes raw : List ℕ) (offset : ℕ) → HasTile bytes offset raw → file_image (drop offset bytes) ≡ raw
tile_read bytes raw offset t = t.image

-- what a writer has whose bytes are known, before and after more were appended
pub sent_known : (bytes : List ℕ) (old new : Option (List ℕ)) → Appends old new bytes → (before after : List ℕ) → old ≡ Some before → new ≡ Some after
    → after ≡ before ++ bytes
sent_known bytes old new sent before after was is = rw (was, is) at sent

-- tiles of a writer whose bytes are known stay
pub sent_kept : (bytes : List ℕ) (old new : Option (List ℕ)) → Appends old new bytes
    → IfSome old (λ before. IfSome new (λ after. (offset : ℕ) (tile : List ℕ) → HasTile before offset tile → HasTile after offset tile))
sent_kept bytes None new sent = tt
sent_kept bytes (Some before) None sent = tt
sent_kept bytes (Some before) (Some after) sent = λ offset tile t. tile_kept tile before after bytes offset sent t

-- a file that was appended is read from where it was put
pub sent_image : (style : Style) (h : Header) (own bytes : List ℕ) (old new : Option (List ℕ)) → IsFileOf style h own bytes → Appends old new bytes
    → (raw before : List ℕ) → raw ≡ own → old ≡ Some before → IfSome new (λ after. file_image (drop (length before) after) ≡ raw)
sent_image style h own bytes old None f sent raw before is was = tt
sent_image style h own bytes old (Some after) f sent raw before is was =
    tile_read after own (length before) (tile_put style h own bytes before after f (sent_known bytes old (Some after) sent before after was refl)) ∙ sym is

-- the bytes before stay
pub sent_stay : (bytes : List ℕ) (old new : Option (List ℕ)) → Appends old new bytes
    → (before : List ℕ) → old ≡ Some before → IfSome new (λ after. take (length before) after ≡ before)
sent_stay bytes old None sent before was = tt
sent_stay bytes old (Some after) sent before was =
    ap (take (length before)) (sent_known bytes old (Some after) sent before after was refl) ∙ take-append_seam before bytes

-- the header of a file that was appended is read from where it was put
pub sent_header : (style : Style) (h : Header) (own bytes : List ℕ) (old new : Option (List ℕ)) → IsFileOf style h own bytes → Appends old new bytes
    → (head : Result Header Error) (before : List ℕ) → head ≡ Ok h → old ≡ Some before → IfSome new (λ after. header_of (drop (length before) after) ≡ head)
sent_header style h own bytes old None f sent head before is was = tt
sent_header style h own bytes old (Some after) f sent head before is was =
    (picture_put style h own bytes before after f (sent_known bytes old (Some after) sent before after was refl)).header ∙ sym is

-- pictures of a writer whose bytes are known stay
pub sent_pictures : (bytes : List ℕ) (old new : Option (List ℕ)) → Appends old new bytes
    → IfSome old (λ before. IfSome new (λ after. (offset : ℕ) (h : Header) (raw : List ℕ) → HasPicture before offset h raw → HasPicture after offset h raw))
sent_pictures bytes None new sent = tt
sent_pictures bytes (Some before) None sent = tt
sent_pictures bytes (Some before) (Some after) sent = λ offset h raw p. picture_kept raw before after bytes offset h sent p
