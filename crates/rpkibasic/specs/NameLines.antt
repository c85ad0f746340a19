-- What is written of a name.
use Rattle.std.specs.Prelude.{◌≡◌, ◌↔◌, ℕ, Bool, List, ◌++◌, codes, if◌then◌else◌, IsTrue}
use Rattle.rpki.specs.StrictName.{IsRpkiName, IsRouterName}
use Rattle.rpkibasic.specs.UriLines.{line_of}

abbrev pub yes_or_no : Bool → List ℕ
yes_or_no is = if is then codes "yes" else codes "no"

-- two lines: whether the octets are a strict name of the RPKI, and whether they are a strict name of a router
pub record AreNameLines (octets text : List ℕ) : Type 0 where
  pub rpki : Bool
  pub router : Bool
  pub is_rpki : IsTrue rpki ↔ IsRpkiName octets
  pub is_router : IsTrue router ↔ IsRouterName octets
  pub lines : text ≡ line_of (codes "rpki ") (yes_or_no rpki) ++ line_of (codes "router ") (yes_or_no router)
