-- Vectors that are computed lane by lane from the same lanes.
use Rattle.std.proofs.Common.{◌≡◌, ℕ, ◌+◌, ◌-◌, ◌%◌, ◌^◌, List, [], ◌∷◌, map, replicate, refl, ap, ◌∙◌}
use Rattle.std.proofs.lemmas.Simd.{zip2_of_maps, splat_is_map, map-map}
use lib.Lanes.{zip2}
use Rattle.std.specs.List.{AllByRecursion}
use Rattle.qoi.specs.inner.block.Lanes.{Lane, IsLane}
use Rattle.qoi.specs.inner.block.Vectors.{AreBy}

-- an operator on two
pub two : {ls : List Lane} {xs ys : List ℕ} {f g : Lane → ℕ} (h : ℕ → ℕ → ℕ) → AreBy ls f xs → AreBy ls g ys → AreBy ls (λ l. h (f l) (g l)) (zip2 h xs ys)
two {ls} {f = f} {g = g} h p q = record { long = p.long; are = p.are; is = zip2_of_maps h f g ls p.is q.is }

-- on one
pub one : {ls : List Lane} {xs : List ℕ} {f : Lane → ℕ} (h : ℕ → ℕ) → AreBy ls f xs → AreBy ls (λ l. h (f l)) (map h xs)
one {ls} {f = f} h p = record { long = p.long; are = p.are; is = ap (map h) p.is ∙ map-map h f ls }

-- the same number in each lane
pub flat : {ls : List Lane} {xs : List ℕ} {f : Lane → ℕ} (y : ℕ) → AreBy ls f xs → AreBy ls (λ _. y) (replicate 16 y)
flat {ls} y p = record { long = p.long; are = p.are; is = splat_is_map ls 16 y p.long }

-- lanes in which the same is computed
pub each : {ls : List Lane} {xs : List ℕ} {f : Lane → ℕ} (g : Lane → ℕ) → AreBy ls f xs → ((l : Lane) → IsLane l → f l ≡ g l) → AreBy ls g xs
each {ls} {xs} {f} g p same = record { long = p.long; are = p.are; is = p.is ∙ go ls p.are }
  where
    go : (ls : List Lane) → AllByRecursion IsLane ls → map f ls ≡ map g ls
    go [] are = refl
    go (l ∷ ls) are = λ i. same l are.0 i ∷ go ls are.1 i

-- another vector that is the same
pub again : {ls : List Lane} {xs : List ℕ} (ys : List ℕ) {f : Lane → ℕ} → ys ≡ xs → AreBy ls f xs → AreBy ls f ys
again ys e p = record { long = p.long; are = p.are; is = e ∙ p.is }

-- the same by name, for a place where the operator isn't found, as with a splat on the left
abbrev pub sum_8 : ℕ → ℕ → ℕ
sum_8 a b = (a + b) % 2 ^ 8

abbrev pub not_8 : ℕ → ℕ
not_8 a = 2 ^ 8 - 1 - a
