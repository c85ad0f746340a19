-- The contents of extensions are read without memory: no error is an allocation failure.
use Rattle.std.specs.Prelude.{true, refl}
use Rattle.rpki_der.specs.declared.error.DecodeError.TheVariants.{OutOfMemory}
use Rattle.rpki_der.specs.Prelude.{sequence, boolean, bit_string, octet_string, oid, ia5_string, IsOnly, leaf}
use Rattle.rpki_der.specs.Prelude.{boolean_contents, only, this_oid}
use Rattle.rpki_der.proofs.LeavesLaws.{contents-no-memory}
use Rattle.rpki.specs.KeyIdentifier.{IsKeyIdentifier}
use Rattle.rpki_resources.proofs.ComposingLaws.{NeverFails, leaf-never, around-never, only-never, then-by-never}
use Rattle.rpki_cert.specs.Access.{context_0}
use Rattle.rpki_cert.specs.AccessDescription.{names, full_name, point, points}
use Rattle.rpki_cert.specs.ExtensionContent.{constraints_content}
use Rattle.rpki_x509.specs.Authority.{identifier_tag, tagged_identifier, authority_content}
use Rattle.rpki_cert.specs.ExtensionContent.{subject_content, usage_content, IsUsage, statement_name, IsAnyIa5}
use Rattle.rpki_cert.specs.ExtensionContent.{statement_value, qualifier_parts, qualifier_value, qualifiers_value}
use Rattle.rpki_cert.specs.ExtensionContent.{optional_qualifiers, IsPolicyName, policy_name, policy_parts, policy_value}
use Rattle.rpki_cert.specs.ExtensionContent.{policies_content}

pub constraints-never : NeverFails constraints_content
constraints-never =
    let flag = leaf boolean (IsOnly (boolean_contents true)) in
    around-never sequence (only flag) (only-never flag (leaf-never boolean (IsOnly (boolean_contents true))))

pub authority-never : NeverFails authority_content
authority-never =
    around-never sequence (only tagged_identifier)
    (only-never tagged_identifier (leaf-never identifier_tag IsKeyIdentifier))

pub subject-never : NeverFails subject_content
subject-never s h = leaf-never octet_string IsKeyIdentifier s h.fault

pub usage-never : NeverFails usage_content
usage-never = leaf-never bit_string IsUsage

qualifier-never : NeverFails qualifier_value
qualifier-never =
    around-never sequence qualifier_parts
    (then-by-never (this_oid statement_name) (λ _. only statement_value) (leaf-never oid (IsOnly statement_name))
    (λ _. only-never statement_value (leaf-never ia5_string IsAnyIa5)))

optional-never : NeverFails optional_qualifiers
optional-never s h =
    only-never qualifiers_value
    (around-never sequence (only qualifier_value) (only-never qualifier_value qualifier-never)) s h.1

pub policies-never : NeverFails policies_content
policies-never =
    around-never sequence (only policy_value)
    (only-never policy_value
    (around-never sequence policy_parts
    (then-by-never policy_name (λ _. optional_qualifiers) (leaf-never oid IsPolicyName) (λ _. optional-never))))

pub points-never : NeverFails points
points-never =
    around-never sequence (only point)
    (only-never point
    (around-never sequence (only full_name)
    (only-never full_name
    (around-never context_0 (only names)
    (only-never names (λ s h. contents-no-memory context_0 true s OutOfMemory h refl))))))
