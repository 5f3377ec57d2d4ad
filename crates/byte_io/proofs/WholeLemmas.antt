-- Bytes that come a chunk at a time.
use Rattle.std.proofs.Common.{◌≡◌, ℕ, ◌+◌, ◌-◌, ◌<◌, ◌≤◌, List, ◌++◌, length, take, Option, ap, ◌∙◌, arith}
use Rattle.std.proofs.KnownBytes.{Consumes-trans}
use Rattle.std.proofs.lemmas.List.{length-append}
use Rattle.std.proofs.Math.Seq.{length-take-le}
use Rattle.std.specs.Io.KnownBytes.{Consumes}
use Rattle.byte_io.specs.Whole.{StopsEarly}
use Rattle.byte_io.specs.declared.whole.ReadAllError.TheVariants.{TooLong, NoMemory}

length_more : (bytes chunk : List ℕ) (count : ℕ) → count ≤ length chunk → length (bytes ++ take count chunk) ≡ length bytes + count
length_more bytes chunk count h = length-append bytes (take count chunk) ∙ ap (λ n. length bytes + n) (length-take-le count chunk h)

-- some bytes came, and then the first ones of a chunk
module _ (left mid now : Option (List ℕ)) (bytes chunk : List ℕ) (count limit before more : ℕ) (h : count ≤ length chunk) (within : length bytes ≤ limit) where
  pub too_long : Consumes left mid bytes → Consumes mid now (take count chunk) → limit - length bytes < count → StopsEarly TooLong limit left now before more
  too_long p q over = (bytes ++ take count chunk, Consumes-trans left mid now bytes (take count chunk) p q, omega (arith, length_more bytes chunk count h, over, within))

  pub no_memory : Consumes left mid bytes → Consumes mid now (take count chunk) → 0 < count → count ≤ limit - length bytes → StopsEarly NoMemory limit left now before more
  no_memory p q some few = (
    bytes ++ take count chunk,
    Consumes-trans left mid now bytes (take count chunk) p q,
    (omega (arith, length_more bytes chunk count h, some), omega (arith, length_more bytes chunk count h, few, within)),
  )
