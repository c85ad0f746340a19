-- Where the identifier of an extension is (RFC 5280 4.1).
use Rattle.std.specs.Prelude.{◌≡◌, ℕ, true, false, List, ◌++◌}
use Rattle.rpki_der.specs.Prelude.{oid, sequence, Spells, SpellsContents}

-- s begins with a SEQUENCE, which r follows; an OBJECT IDENTIFIER of these contents is first in it; and m follows that,
-- as far as the end of s
pub record IsBehindIdentifier (s r identifier m : List ℕ) : Type 0 where
  pub contents : List ℕ
  pub others : List ℕ
  pub extension : Spells (SpellsContents sequence true) s contents r
  pub first : Spells (SpellsContents oid false) contents identifier others
  pub behind : m ≡ others ++ r
