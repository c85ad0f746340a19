-- AS numbers, and blocks of them (RFC 3779 3.2.3.4 to 3.2.3.9).
use Rattle.std.specs.Prelude.{◌≡◌, ◌<◌, ◌^◌, ℕ}
use Rattle.rpki_der.specs.Prelude.{sequence, Format, around, either, unsigned_below}
use Rattle.rpki_resources.specs.declared.block.Block.{Block}
use Rattle.rpki_resources.specs.Composing.{standing_for, ends}

-- an AS number: an INTEGER from 0 to 2^32 - 1 (RFC 3779 3.2.3.9, RFC 6793)
abbrev pub as_number : Format ℕ
as_number = unsigned_below (2 ^ 32)

-- a block of one number (RFC 3779 3.2.3.6)
abbrev pub IsOneNumber : Block → ℕ → Type 0
IsOneNumber b n = (b.low ≡ n) × (b.high ≡ n)

abbrev pub as_id : Format Block
as_id = standing_for IsOneNumber as_number

-- a block of two numbers at least (RFC 3779 3.2.3.7)
pub record IsAsRange (b : Block) (x : ℕ × ℕ) : Type 0 where
  pub low : b.low ≡ x.0
  pub high : b.high ≡ x.1
  pub ascends : x.0 < x.1

abbrev pub as_ends : Format Block
as_ends = ends IsAsRange as_number

abbrev pub as_range : Format Block
as_range = around sequence as_ends

-- a block: a range where a SEQUENCE is there, and else a number
abbrev pub as_block : Format Block
as_block = either sequence as_range as_id
