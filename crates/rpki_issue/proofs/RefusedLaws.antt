-- Nothing that can be issued is refused.
use Rattle.std.proofs.Common.{◌≡◌, Option, Some, None, refl}
use Rattle.rpki_der.specs.OptionalPart.{OfPart}
use Rattle.rpki_resources.specs.declared.resources.IpResources.{IpResources}
use Rattle.rpki_resources.specs.declared.resources.AsResources.{AsResources}
use Rattle.rpki_resources.specs.EncodedResources.{CanWriteIp, CanWriteAs}
use Rattle.rpki_issue.specs.declared.error.IssueError.{IssueError}
use Rattle.rpki_issue.specs.declared.error.IssueError.TheVariants.{Uri, Period, Doubled, Resources, TooLong}
use Rattle.rpki_issue.specs.declared.error.IssueError.TheVariants.{Rule, ContentType, Certificate, BadSignature}
use Rattle.rpki_issue.specs.declared.error.IssueError.TheVariants.{OutOfMemory}
use Rattle.rpki_issue.specs.declared.kind.CertExtensions.{CertExtensions}
use Rattle.rpki_issue.specs.Extensions.{extensions_of, extensions_listed, CanHoldIp, CanHoldAs, CanHold}
use Rattle.rpki_issue.specs.Tbs.{Issued, IsShortTbs}
use Rattle.rpki_issue.specs.Issuing.{CanIssue}
use Rattle.rpki_issue.specs.Refusal.{CanWrite}
use Rattle.rpki_issue.specs.Signing.{IsPlanRefusal}
use Rattle.rpki_issue.proofs.ProfileLaws.{has-profile}

ip-writes : (o : Option IpResources) → OfPart CanHoldIp o → OfPart CanWriteIp o
ip-writes None h = h
ip-writes (Some x) h = h.legal

as-writes : (o : Option AsResources) → OfPart CanHoldAs o → OfPart CanWriteAs o
as-writes None h = h
as-writes (Some x) h = h.legal

writes : (e : CertExtensions) → CanHold e → CanWrite e
writes e can = record { addresses = ip-writes _ can.addresses; numbers = as-writes _ can.numbers }

pub not-refused : (x : Issued) (e : CertExtensions) (w : IssueError) → CanIssue x e
    → IsShortTbs x (extensions_listed (extensions_of e)) → IsPlanRefusal x e w → w ≡ OutOfMemory
not-refused x e Uri can short h = absurd (h can.uris)
not-refused x e Period can short h = absurd h
not-refused x e Doubled can short h = absurd h
not-refused x e Resources can short h = absurd (h (writes e can.resources))
not-refused x e TooLong can short h = absurd (h can.resources short)
not-refused x e (Rule r) can short h = absurd (h.1 (has-profile x e can))
not-refused x e ContentType can short h = absurd h
not-refused x e Certificate can short h = absurd h
not-refused x e BadSignature can short h = absurd h
not-refused x e OutOfMemory can short h = refl
