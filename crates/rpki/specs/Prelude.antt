-- The words of `rpki` that crates above say, by subject: one import line for them all. Declares nothing.
pub use Rattle.rpki.specs.Algorithm.{IsIdentified, IsParameters, SpellsAlgorithm}
pub use Rattle.rpki.specs.AlgorithmFault.{algorithm, bare}
pub use Rattle.rpki.specs.AlgorithmOctets.{algorithm_octets}
pub use Rattle.rpki.specs.AnyValue.{SpellsAny}
pub use Rattle.rpki.specs.BareOctetsLaws.{bare-short, bare-spelled, bare-value}
pub use Rattle.rpki.specs.ErrorContent.{content_of, validation_text, verification_content}
pub use Rattle.rpki.specs.ErrorTexts.{period_text, verification_text}
pub use Rattle.rpki.specs.Extension.{extension_contents, extension_octets}
pub use Rattle.rpki.specs.ExtensionFault.{captured_extension, extension, extension_fields, kept_extension}
pub use Rattle.rpki.specs.ExtensionPlace.{IsBehindIdentifier}
pub use Rattle.rpki.specs.ExtensionValue.{CanBeWritten, ExtensionParts, IsExtensionContents, SpellsExtension}
pub use Rattle.rpki.specs.ExtensionValue.{written_extension}
pub use Rattle.rpki.specs.KeyFault.{key, key_view, rsa_key}
pub use Rattle.rpki.specs.KeyFormat.{IsFormatContents, SpellsFormat}
pub use Rattle.rpki.specs.KeyIdentifier.{IsHexOf, IsIdentifierFault, IsKeyIdentifier, SpellsKeyIdentifier}
pub use Rattle.rpki.specs.Name.{IsAttribute, IsName, SpellsAttribute, SpellsEach, SpellsNameOctets, SpellsRelative}
pub use Rattle.rpki.specs.Name.{SpellsSome}
pub use Rattle.rpki.specs.NameFault.{IsNameFault, IsWalkedNameFault, name}
pub use Rattle.rpki.specs.NameRule.{BreaksRouterRule, BreaksRpkiRule, router_text, rpki_text}
pub use Rattle.rpki.specs.Oids.{ec_public_key, rsa_encryption, secp256r1, sha256_with_rsa_encryption}
pub use Rattle.rpki.specs.Provider.{Check, Checkers, Verifies}
pub use Rattle.rpki.specs.PublicKey.{IsKeyContents, IsRsaKey, KeyParts, SpellsKey, key_contents}
pub use Rattle.rpki.specs.PublicKey.{key_octets, key_of}
pub use Rattle.rpki.specs.Signature.{SignatureParts}
pub use Rattle.rpki.specs.SignatureNames.{SpellsBare, bare_octets}
pub use Rattle.rpki.specs.SignedData.{IsShortSigned, IsSignedContents, SignedParts, SpellsSignature, SpellsSigned}
pub use Rattle.rpki.specs.SignedData.{parts_of, written_contents, written_signed}
pub use Rattle.rpki.specs.SignedFault.{around_three, signed_sequence, three}
pub use Rattle.rpki.specs.StrictName.{IsPrintable, IsPrintableOrUtf8, IsRouterName, IsRpkiName}
pub use Rattle.rpki.specs.SubjectName.{subject_octets}
pub use Rattle.rpki.specs.UnknownAlgorithm.{IsContentWith}
