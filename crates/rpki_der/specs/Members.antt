-- Values and lists of values (X.690 8.1.1 and 8.1.2.5: a constructed value holds values that fill its contents).
use Rattle.std.specs.Prelude.{◌≡◌, ℕ, true, false, ◌+◌, ◌<◌, ◌^◌, List, [], ◌++◌, length}
use Rattle.rpki_der.specs.TagName.{TagName, IsTag}
use Rattle.rpki_der.specs.Header.{tlv}

-- Values, in sequence: the first is a tag with octets, or a tag with the values that are its members.
pub data Members : Type 0 where
  Empty : Members
  Primitive : (tag : TagName) (contents : List ℕ) (rest : Members) → Members
  Constructed : (tag : TagName) (members rest : Members) → Members

-- the octets of values, in sequence
abbrev pub spell : Members → List ℕ
spell Empty = []
spell (Primitive t c rest) = tlv t false c ++ spell rest
spell (Constructed t ms rest) = tlv t true (spell ms) ++ spell rest

-- each value, at every depth, has a header: a legal tag, and contents whose length can be announced
abbrev pub HaveHeaders : Members → Type 0
HaveHeaders Empty = Unit {0}
HaveHeaders (Primitive t c rest) = (IsTag t × (length c < 2 ^ 32)) × HaveHeaders rest
HaveHeaders (Constructed t ms rest) = (IsTag t × (length (spell ms) < 2 ^ 32)) × HaveHeaders ms × HaveHeaders rest

-- how many values, not counting nested values
abbrev pub count : Members → ℕ
count Empty = 0
count (Primitive t c rest) = 1 + count rest
count (Constructed t ms rest) = 1 + count rest

-- how many headers, those of nested values included
abbrev pub header_count : Members → ℕ
header_count Empty = 0
header_count (Primitive t c rest) = 1 + header_count rest
header_count (Constructed t ms rest) = 1 + header_count ms + header_count rest

-- these octets are k values, in sequence
pub record AreValues (k : ℕ) (octets : List ℕ) : Type 0 where
  pub members : Members
  pub legal : HaveHeaders members
  pub spelled : octets ≡ spell members
  pub counted : count members ≡ k

-- these octets are one value
abbrev pub IsValue : List ℕ → Type 0
IsValue octets = AreValues 1 octets

-- these octets are a list of values
abbrev pub IsValueList : List ℕ → Type 0
IsValueList octets = (k : ℕ) × AreValues k octets

-- these octets are one value, with n headers at all depths
abbrev pub IsValueOf : ℕ → List ℕ → Type 0
IsValueOf n octets = (value : IsValue octets) × (header_count value.members ≡ n)

-- the grammar of whole values: a value stands for its own octets
pub record SpellsValue (v p : List ℕ) : Type 0 where
  pub same : p ≡ v
  pub value : IsValue v
