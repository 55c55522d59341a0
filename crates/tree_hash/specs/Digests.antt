-- Digests that were computed.
use Rattle.std.specs.Prelude.{◌≡◌, ℕ, List}
use Rattle.vm_field.specs.Sponge.{hashed}
use Rattle.tree_hash.specs.declared.digests.Known.{Known}

-- the digest of its own input
abbrev pub IsDigest : List ℕ → Known → Type 0
IsDigest constants k = k.digest ≡ hashed constants k.domain k.blocks.items
