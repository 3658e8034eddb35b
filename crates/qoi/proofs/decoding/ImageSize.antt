-- The size of an image in bytes and in pixels.
use Rattle.std.proofs.Common.{◌≡◌, ℕ, ◌*◌, ◌/◌, ◌≤◌, inl, inr, List, Option, length, take, ap, ◌∙◌, arith, length-take-le}
use Rattle.qoi.specs.declared.types.Channels.TheVariants.{Rgb, Rgba}
use Rattle.qoi.specs.Qoi.{Channels, Header, channels_number, meaning, pixel_count, run_max}
use Rattle.qoi.specs.Raw.{IsChannels, byte_count, raw_per_byte}
use Rattle.qoi.specs.Decoding.{least_byte_count, ReadsImage}
use Rattle.qoi.proofs.format.WholePixels.{length-output}

-- there are three or four channels
pub channels_are : (c : Channels) (n : ℕ) → n ≡ channels_number c → IsChannels n
channels_are Rgb n e = inl e
channels_are Rgba n e = inr e

-- as many pixels as have so many bytes
pub pixels_of_size : (h : Header) (c : Channels) (size n : ℕ) → size ≡ byte_count h (channels_number c) → n ≡ channels_number c → size / n ≡ pixel_count h
pixels_of_size h Rgb size n e is = rw (e, is) (omega arith)
pixels_of_size h Rgba size n e is = rw (e, is) (omega arith)

-- how many bytes the pixels that were read have
pub image_length : (f c n : ℕ) (old new : Option (List ℕ)) (out : List ℕ) → IsChannels c → ReadsImage f c n old new out → length out ≡ c * n
image_length f c n old new out is r =
    ap length r.out_is ∙ length-output f c (take n (meaning r.cs)) is ∙ ap (λ k. c * k) (length-take-le n (meaning r.cs) r.reaches.enough)

-- an image that bytes could hold has at most a run's pixels, and their raw bytes, for each of them
pub bounded_by : (n size : ℕ) (c : Channels) (rest bytes : List ℕ) → least_byte_count n ≤ length rest → length rest ≤ length bytes
    → size ≤ n * channels_number c → (n ≤ run_max * length bytes) × (size ≤ raw_per_byte * length bytes)
bounded_by n size Rgb rest bytes holds within is = (omega (arith, holds, within), omega (arith, holds, within, is))
bounded_by n size Rgba rest bytes holds within is = (omega (arith, holds, within), omega (arith, holds, within, is))
