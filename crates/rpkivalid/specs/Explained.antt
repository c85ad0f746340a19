-- What is explained: why an object counts or not, and what payloads say of a route.
use Rattle.std.specs.Prelude.{◌≡◌, ℕ, Bool, List, [], ◌++◌, IfSome}
use Rattle.rpki.specs.PublicKey.{KeyParts}
use Rattle.rpki_objects.specs.declared.strictness.Strictness.{Strictness}
use Rattle.rpki_payloads.specs.declared.exceptions.NamedExceptions.{NamedExceptions}
use Rattle.rpki_payloads.specs.declared.route.Route.{Route}
use Rattle.rpki_payloads.specs.Changed.{IsChangedText}
use Rattle.rpki_payloads.specs.Payloads.{PayloadParts}
use Rattle.rpki_payloads.specs.Route.{IsRouteText}
use Rattle.rpki_text.specs.RsyncText.{uri_of}
use Rattle.rpki_validation.specs.Basis.{Basis}
use Rattle.rpkivalid.specs.declared.question.Question.{Question}
use Rattle.rpkivalid.specs.declared.question.Question.TheVariants.{Object, Origin, Alone}
use Rattle.rpkivalid.specs.declared.walked.Walk.{Walk}
use Rattle.rpkivalid.specs.Excepted.{Excepts}
use Rattle.rpkivalid.specs.Locators.{AreLocatorsIn, Holds, NamedParts, once}
use Rattle.rpkivalid.specs.Paths.{object_path}
use Rattle.rpkivalid.specs.Refused.{AreRefusedIn}
use Rattle.rpkivalid.specs.Reported.{AreTold}
use Rattle.rpkivalid.specs.Request.{Asked}
use Rattle.rpkivalid.specs.Shown.{IsUnchanged}
use Rattle.rpkivalid.specs.Told.{file_text, is_found}
use Rattle.rpkivalid.specs.Walked.{IsWalkIn, without}

-- What is said of the object at a URI under a locator: by what is found, and by what is found where there is no such
-- file; and whether the locator has a trust anchor.
pub record IsToldIn (holds : Holds) (folder : List ℕ) (basis : KeyParts → Basis) (uri : List ℕ) (l : NamedParts)
    (text : List ℕ) (anchored : Bool) : Type 0 where
  pub found : Walk
  pub found_is : IsWalkIn holds folder basis l found
  pub left : Walk
  pub left_is : IsWalkIn (without (object_path folder (uri_of uri)) holds) folder basis l left
  pub text_is : text ≡ file_text l.name uri found left
  pub anchored_is : anchored ≡ is_found found

-- What attestations that are rejected under a locator say of what is asked, and whether it has a trust anchor.
pub record IsRefusedUnder (holds : Holds) (folder : List ℕ) (strictness : Strictness) (basis : KeyParts → Basis)
    (question : Question) (l : NamedParts) (text : List ℕ) (anchored : Bool) : Type 0 where
  pub found : Walk
  pub found_is : IsWalkIn holds folder basis l found
  pub text_is : IfSome holds (λ files. AreRefusedIn files folder strictness question l.name found text)
  pub anchored_is : anchored ≡ is_found found

-- of an object the one, else the other
abbrev pub IsToldOf : Holds → List ℕ → Strictness → (KeyParts → Basis) → Question → NamedParts → List ℕ → Bool → Type 0
IsToldOf holds folder strictness basis (Object uri) = IsToldIn holds folder basis uri
IsToldOf holds folder strictness basis (Origin route) = IsRefusedUnder holds folder strictness basis (Origin route)
IsToldOf holds folder strictness basis (Alone vrps) = IsRefusedUnder holds folder strictness basis (Alone vrps)

-- what is said of what is asked under the locators that are asked for
pub record IsTold (basis : KeyParts → Basis) (holds : Holds) (a : Asked) (question : Question) (text : List ℕ)
    (anchored : Bool) : Type 0 where
  pub locators : List NamedParts
  pub there : AreLocatorsIn holds (once a.locators) locators
  pub told : AreTold (IsToldOf holds a.cache a.strictness basis question) locators text anchored

-- What the payloads under the locators say of the route, with the local exceptions that are asked for (RFC 6811 2), and
-- then which of these take away or add a payload that covers it (RFC 8416 3.3.1, 3.4.1); and what is told of what is
-- found.
pub record IsRouteTold (basis : KeyParts → Basis) (holds : Holds) (a : Asked) (route : Route) (text lines : List ℕ)
    (anchored : Bool) : Type 0 where
  pub found : List PayloadParts
  pub local : List NamedExceptions
  pub unchanged : IsUnchanged basis holds a found local lines anchored
  pub shown : List PayloadParts
  pub excepted : Excepts local found shown
  pub said : List ℕ
  pub told : IsRouteText route shown said
  pub changes : List ℕ
  pub changed : IsChangedText route local found changes
  pub text_is : text ≡ said ++ changes

-- what payloads say of the route, and then what attestations that are rejected say of it
pub record IsOriginTold (basis : KeyParts → Basis) (holds : Holds) (a : Asked) (route : Route) (text lines : List ℕ)
    (anchored : Bool) : Type 0 where
  pub said : List ℕ
  pub says : IsRouteTold basis holds a route said lines anchored
  pub refused : List ℕ
  pub others : Bool
  pub refuses : IsTold basis holds a (Origin route) refused others
  pub text_is : text ≡ said ++ refused

-- of an object, of a route, or of payloads; of a route with what is told of what is found
abbrev pub IsExplanation : (KeyParts → Basis) → Holds → Asked → Question → (text lines : List ℕ) → Bool → Type 0
IsExplanation basis holds a (Object uri) text lines anchored =
    IsTold basis holds a (Object uri) text anchored × (lines ≡ [])
IsExplanation basis holds a (Origin route) text lines anchored = IsOriginTold basis holds a route text lines anchored
IsExplanation basis holds a (Alone vrps) text lines anchored =
    IsTold basis holds a (Alone vrps) text anchored × (lines ≡ [])
