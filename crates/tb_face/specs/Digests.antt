-- Digests of texts: SHA-256 (FIPS 180-4).
use Rattle.std.specs.Prelude.{◌≡◌, ℕ, List, Contains}
use Rattle.sha2.specs.Sha256.{sha256}

-- the digest of a text, as 32 bytes
abbrev pub sha : List ℕ → List ℕ
sha text = sha256 text

-- no two texts of the list have one digest
pub record NoCollision (met : List (List ℕ)) : Type 0 where
  pub alike : (a b : List ℕ) → Contains met a → Contains met b → sha a ≡ sha b → a ≡ b
