-- Why nothing is issued, and what is written in sequence of the extensions of a certificate.
use Rattle.std.specs.Prelude.{◌≡◌, ℕ, List, ◌++◌, codes, Option, Some, None, option_map}
use Rattle.rpki_der.specs.OptionalPart.{OfPart}
use Rattle.rpki.specs.ExtensionValue.{ExtensionParts}
use Rattle.rpki_resources.specs.declared.resources.IpResources.{IpResources}
use Rattle.rpki_resources.specs.declared.resources.AsResources.{AsResources}
use Rattle.rpki_resources.specs.EncodedResources.{CanWriteIp, CanWriteAs}
use Rattle.rpki_issue.specs.declared.error.IssueError.{IssueError}
use Rattle.rpki_issue.specs.declared.error.IssueError.TheVariants.{Uri, Period, Doubled, Resources, TooLong}
use Rattle.rpki_issue.specs.declared.error.IssueError.TheVariants.{Rule, ContentType, Certificate, BadSignature}
use Rattle.rpki_issue.specs.declared.error.IssueError.TheVariants.{OutOfMemory}
use Rattle.rpki_issue.specs.declared.kind.CertExtensions.{CertExtensions}
use Rattle.rpki_issue.specs.Extensions.{extensions_of, extensions_listed, CanHoldIp, CanHoldAs, CanHold}
use Rattle.rpki_issue.specs.Issuing.{AreKeys}

-- what a person reads
abbrev pub issue_text : IssueError → List ℕ
issue_text Uri = codes "URI of 3,080 octets or more"
issue_text Period = codes "period that ends before it begins"
issue_text Doubled = codes "serial number listed twice"
issue_text Resources = codes "resources that no extension says"
issue_text TooLong = codes "more octets than a length announces"
issue_text (Rule r) = codes "rule of the profile broken"
issue_text ContentType = codes "content type that is no object identifier"
issue_text Certificate = codes "certificate that is none"
issue_text BadSignature = codes "signature not by the key"
issue_text OutOfMemory = codes "out of memory"

-- what was written, and then these extensions
abbrev pub IsMore : List ℕ → List ℕ → List ExtensionParts → Type 0
IsMore before after xs = after ≡ before ++ extensions_listed xs

-- the octets of all extensions; identifiers of keys are whole, and the resources can be written
pub record AreListed (e : CertExtensions) (octets : List ℕ) : Type 0 where
  pub list : octets ≡ extensions_listed (extensions_of e)
  pub keys : AreKeys e
  pub hold : CanHold e

-- ---- refusals of resources: no extension says them, or they have 2^31 octets or more

abbrev pub IsHeldRefusal : Type 0 → Type 0 → IssueError → Type 0
IsHeldRefusal legal held Uri = ⊥
IsHeldRefusal legal held Period = ⊥
IsHeldRefusal legal held Doubled = ⊥
IsHeldRefusal legal held Resources = legal → ⊥
IsHeldRefusal legal held TooLong = held → ⊥
IsHeldRefusal legal held (Rule r) = ⊥
IsHeldRefusal legal held ContentType = ⊥
IsHeldRefusal legal held Certificate = ⊥
IsHeldRefusal legal held BadSignature = ⊥
IsHeldRefusal legal held OutOfMemory = Unit {0}

abbrev pub IsIpRefusal : IpResources → IssueError → Type 0
IsIpRefusal x = IsHeldRefusal (CanWriteIp x) (CanHoldIp x)

abbrev pub IsAsRefusal : AsResources → IssueError → Type 0
IsAsRefusal x = IsHeldRefusal (CanWriteAs x) (CanHoldAs x)

-- of resources that the certificate has
abbrev pub IsPartRefusal : {R : Type 0} → (R → IssueError → Type 0) → Option R → IssueError → Type 0
IsPartRefusal refusal None w = ⊥
IsPartRefusal refusal (Some x) w = refusal x w

-- all resources can be written
pub record CanWrite (x : CertExtensions) : Type 0 where
  pub addresses : OfPart CanWriteIp (option_map (λ r. r.now) x.ip)
  pub numbers : OfPart CanWriteAs (option_map (λ r. r.now) x.asn)

abbrev pub IsListRefusal : CertExtensions → IssueError → Type 0
IsListRefusal x = IsHeldRefusal (CanWrite x) (CanHold x)
