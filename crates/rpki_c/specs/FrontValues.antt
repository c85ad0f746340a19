-- What a status says of a value that is taken off a span: of a universal type (X.690 8.2, 8.3, 8.6, 8.19), or of any.
use Rattle.std.specs.Prelude.{◌≡◌, ◌≤◌, ◌<◌, ◌+◌, ◌⊎◌, ℕ, Bool, List, length, take, drop}
use Rattle.rpki_der.specs.declared.tag.Header.{Header}
use Rattle.rpki_der.specs.Format.{leaf}
use Rattle.rpki_der.specs.Integer.{IsUnsigned}
use Rattle.rpki_der.specs.Leaves.{Bits, IsBoolean, IsBits, IsOidOf}
use Rattle.rpki_der.specs.Number.{number_of}
use Rattle.rpki_der.specs.Reading.{Accepts}
use Rattle.rpki_der.specs.TagName.{boolean, integer, bit_string, oid}
use Rattle.rpki_der.specs.Values.{SpellsHeader, IsHeaderFault}
use Rattle.rpki_c.specs.declared.headers.HeaderParts.{HeaderParts}
use Rattle.rpki_c.specs.declared.span.Span.{Span}
use Rattle.rpki_c.specs.Front.{AreParts}
use Rattle.rpki_c.specs.Span.{IsTakenOff}
use Rattle.rpki_c.specs.Status.{truncated}
use Rattle.rpki_c.specs.Whole.{IsFrontRefused}

-- ---- of a universal type

-- a BOOLEAN
abbrev pub IsBooleanTaken : ℕ → Span → Span → Bool → Bool → Type 0
IsBooleanTaken = IsTakenOff (leaf boolean IsBoolean) (λ b told. told ≡ b)

-- an INTEGER that is not negative, and the octets of its number, the most significant first
abbrev pub IsUnsignedTaken : ℕ → Span → Span → Span → Span → Type 0
IsUnsignedTaken = IsTakenOff (leaf integer IsUnsigned) (λ n p. number_of p.octets.now ≡ n)

-- a BIT STRING: the octets of its bits, and how many of the last are unused
abbrev pub HasBits : Bits → Span × ℕ → Type 0
HasBits b p = (p.0.octets.now ≡ b.octets) × (p.1 ≡ b.unused)

abbrev pub IsBitStringTaken : ℕ → Span → Span → Span × ℕ → Span × ℕ → Type 0
IsBitStringTaken = IsTakenOff (leaf bit_string IsBits) HasBits

-- an OBJECT IDENTIFIER, and its contents octets
abbrev pub IsObjectIdentifierTaken : ℕ → Span → Span → Span → Span → Type 0
IsObjectIdentifierTaken = IsTakenOff (leaf oid IsOidOf) (λ contents p. p.octets.now ≡ contents)

-- ---- of any tag

-- what is written of a value: its header, its contents, and all of it
pub record Taken : Type 0 where
  pub header : HeaderParts
  pub contents : Span
  pub whole : Span

abbrev pub taken : HeaderParts → Span → Span → Taken
taken header contents whole = record { header = header; contents = contents; whole = whole }

-- A header begins the octets, and all contents that it announces follow it; `after` follows these.
pub record HasTaken (s after : List ℕ) (v : Taken) : Type 0 where
  pub header : Header
  pub read : Accepts SpellsHeader s header (drop v.header.size s)
  pub parts : AreParts header v.header
  pub there : v.header.size + header.length ≤ length s
  pub contents : v.contents.octets.now ≡ take header.length (drop v.header.size s)
  pub whole : v.whole.octets.now ≡ take (v.header.size + header.length) s
  pub rest : after ≡ drop header.length (drop v.header.size s)

-- no header begins the octets; or one does, and not all contents follow it, of which the status is 1
abbrev pub IsNoneTaken : List ℕ → ℕ → Type 0
IsNoneTaken s status =
    IsFrontRefused SpellsHeader IsHeaderFault s status
    ⊎ ((status ≡ truncated) × (h : Header) × (r : List ℕ) × Accepts SpellsHeader s h r × (length r < h.length))

-- Status 0: a value is taken off. Else it isn't, and nothing is written.
abbrev pub IsValueTaken : ℕ → Span → Span → Taken → Taken → Type 0
IsValueTaken status before after old new =
    ((status ≡ 0) × HasTaken before.octets.now after.octets.now new)
    ⊎ (IsNoneTaken before.octets.now status × (after ≡ before) × (new ≡ old))
