-- Whatever images the rest has, all the bytes have those so far and then these.
use Rattle.std.proofs.Common.{ℕ, ◌++◌, List, map, length, Vec, Global}
use Rattle.qoi_tool.specs.Files.{AreFiles}
use Rattle.qoi_tool.proofs.tests.library.callers.all_images.Given as goal

abbrev pub invariant-loop-rest : goal.invariant-loop-rest
invariant-loop-rest l = (more : List (List ℕ)) → AreFiles l.rest more
    → AreFiles l.bytes (map (λ (image : Vec ℕ Global). image.items) l.images.items ++ more)

abbrev pub decreases-loop-rest : goal.decreases-loop-rest
decreases-loop-rest l = length l.rest
