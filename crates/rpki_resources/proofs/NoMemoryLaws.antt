-- Reading in place takes no memory: no error of it is an allocation failure.
use Rattle.std.proofs.Common.{ℕ, List, Option, None, refl}
use Rattle.rpki_der.specs.declared.error.DecodeError.TheVariants.{OutOfMemory}
use Rattle.rpki_der.specs.Prelude.{null, octet_string, sequence, IsNull, only}
use Rattle.rpki_der.proofs.FirstFaultLaws.{first-no-memory, end-no-memory}
use Rattle.rpki_resources.specs.declared.kind.ResourceKind.{ResourceKind}
use Rattle.rpki_resources.specs.declared.kind.ResourceKind.TheVariants.{Addresses, AsNumbers}
use Rattle.rpki_resources.specs.declared.family.AddressFamily.{AddressFamily}
use Rattle.rpki_resources.specs.declared.family.AddressFamily.TheVariants.{Ipv4, Ipv6}
use Rattle.rpki_resources.specs.declared.choice_view.ChoiceView.{ChoiceView}
use Rattle.rpki_resources.specs.Listed.{AreBlocksFault}
use Rattle.rpki_resources.specs.Listed.AreBlocksFault.{NoBlock, AtBlock, AfterBlock}
use Rattle.rpki_resources.specs.InPlace.{blocks}
use Rattle.rpki_resources.specs.Extension.{inherit, listed_blocks, choice, as_numbers, asnum, as_resources, IsFamily}
use Rattle.rpki_resources.specs.Extension.{family_name, family_parts, named_family, IsAfterSecondFault}
use Rattle.rpki_resources.specs.Extension.{IsAfterFirstFault, ip_families, ip_resources}
use Rattle.rpki_resources.proofs.ComposingLaws.{NeverFails, leaf-never, around-never, only-never, then-by-never}
use Rattle.rpki_resources.proofs.ComposingLaws.{either-never}
use Rattle.rpki_resources.proofs.FollowLaws.{next-no-memory}

blocks-never : (kind : ResourceKind) (last : Option ℕ) (s : List ℕ) → AreBlocksFault kind last s OutOfMemory → ⊥
blocks-never kind last s (NoBlock h) = h
blocks-never kind last s (AtBlock some h) = next-no-memory kind last s OutOfMemory h refl
blocks-never kind last s (AfterBlock b r a h) = blocks-never kind _ r h

only-choice-never : (kind : ResourceKind) → NeverFails (only (choice kind))
only-choice-never kind =
    only-never (choice kind)
    (either-never null inherit (listed_blocks kind) (leaf-never null IsNull)
    (around-never sequence (blocks kind) (blocks-never kind None)))

pub as-no-memory : NeverFails as_resources
as-no-memory =
    around-never sequence (only asnum)
    (only-never asnum (around-never as_numbers (only (choice AsNumbers)) (only-choice-never AsNumbers)))

named-never : NeverFails named_family
named-never =
    around-never sequence family_parts
    (then-by-never family_name (λ family. only (choice (Addresses family))) (leaf-never octet_string IsFamily)
    (λ family. only-choice-never (Addresses family)))

after-second : (x : AddressFamily × ChoiceView) (r : List ℕ) → IsAfterSecondFault x r OutOfMemory → ⊥
after-second (Ipv4, v) r h = h
after-second (Ipv6, v) r h = end-no-memory r h

after-first : (x : AddressFamily × ChoiceView) (r : List ℕ) → IsAfterFirstFault x r OutOfMemory → ⊥
after-first (Ipv4, v) r h =
    first-no-memory named_family.spells named_family.fault IsAfterSecondFault r (named-never r) after-second h.1
after-first (Ipv6, v) r h = end-no-memory r h

pub ip-no-memory : NeverFails ip_resources
ip-no-memory =
    around-never sequence ip_families
    (λ c k. first-no-memory named_family.spells named_family.fault IsAfterFirstFault c (named-never c) after-first k)
