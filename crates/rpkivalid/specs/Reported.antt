-- What is told of rejections, and how many payloads there are.
use Rattle.std.specs.Prelude.{◌≡◌, ◌++◌, ◌&&◌, ℕ, Bool, true, false, List, [], ◌∷◌, codes, decimal, length}
use Rattle.std.specs.List.{flat_map}
use Rattle.rpki.specs.PublicKey.{KeyParts}
use Rattle.rpki_payloads.specs.Payloads.{PayloadParts}
use Rattle.rpki_validation.specs.Basis.{Basis}
use Rattle.rpki_validation.specs.declared.outcome.Rejection.{Rejection}
use Rattle.rpki_validation.specs.declared.reason.Reason.{Reason}
use Rattle.rpkivalid.specs.declared.walked.Walk.{Walk}
use Rattle.rpkivalid.specs.declared.walked.Walk.TheVariants.{Found, NoAnchor}
use Rattle.rpkivalid.specs.Locators.{Holds, NamedParts}
use Rattle.rpkivalid.specs.Reasons.{reason_text}
use Rattle.rpkivalid.specs.Told.{is_found, place_text}
use Rattle.rpkivalid.specs.Walked.{IsWalkIn}

abbrev pub point_word : Bool → List ℕ
point_word true = codes ": publication point rejected: "
point_word false = codes ": "

-- the URI of what is rejected, and why
abbrev pub report_line : Rejection → List ℕ
report_line r = place_text r.uri ++ (point_word r.is_point ++ (reason_text r.reason ++ 10 ∷ []))

-- a locator that has no trust anchor, and why
abbrev pub missing_line : List ℕ → Reason → List ℕ
missing_line name reason =
    codes "rpkivalid: " ++ (name ++ (codes ": no trust anchor: " ++ (reason_text reason ++ 10 ∷ [])))

-- ---- under locators

-- what is told of what is found under a locator of this name: a line for each rejection; or why it has no trust anchor
abbrev pub walk_lines : (name : List ℕ) → Walk → List ℕ
walk_lines name (Found o) = flat_map report_line o.rejections.items
walk_lines name (NoAnchor reason) = missing_line name reason

-- what is told of a locator, and whether it has a trust anchor
pub record IsReportIn (holds : Holds) (folder : List ℕ) (basis : KeyParts → Basis) (l : NamedParts) (lines : List ℕ)
    (anchored : Bool) : Type 0 where
  pub walk : Walk
  pub walk_is : IsWalkIn holds folder basis l walk
  pub lines_are : lines ≡ walk_lines l.name walk
  pub anchored_is : anchored ≡ is_found walk

-- what is told of all locators, in their order; and whether each of them has a trust anchor
abbrev pub AreTold : (NamedParts → List ℕ → Bool → Type 0) → List NamedParts → List ℕ → Bool → Type 0
AreTold R [] text all = (text ≡ []) × (all ≡ true)
AreTold R (l ∷ ls) text all =
    (one : List ℕ) × (more : List ℕ) × (anchored : Bool) × (others : Bool) × R l one anchored × AreTold R ls more others
    × (text ≡ one ++ more) × (all ≡ (anchored && others))

-- ---- the numbers of payloads

unfoldable pub numbers_text : (origins providers keys : ℕ) → List ℕ
numbers_text origins providers keys =
    codes ": " ++ (decimal origins ++ (codes " route origins, " ++ (decimal providers ++ (codes " providers, "
    ++ (decimal keys ++ codes " router keys\n")))))

-- under this beginning and the name of a locator
abbrev pub numbers_line : (start name : List ℕ) → (origins providers keys : ℕ) → List ℕ
numbers_line start name origins providers keys = start ++ (name ++ numbers_text origins providers keys)

unfoldable pub count_line : PayloadParts → List ℕ
count_line p = numbers_line (codes "rpkivalid: ") p.name (length p.vrps) (length p.pairs) (length p.keys)
