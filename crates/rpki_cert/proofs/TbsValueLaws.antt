-- What is signed of a certificate is one value, with everything nested in it.
use Rattle.std.proofs.Common.{ℕ, false, List, sym, subst}
use Rattle.rpki_der.specs.TagName.{integer, sequence, bit_string, oid}
use Rattle.rpki_der.specs.Values.{SpellsLeaf}
use Rattle.rpki_der.specs.Leaves.{IsBits, IsOnly}
use Rattle.rpki_der.specs.Members.{IsValue, IsValueList}
use Rattle.rpki_der.specs.ValueListLaws.{value_lists_append}
use Rattle.rpki_der.proofs.LeafValueLaws.{composed-value-alone}
use Rattle.rpki_time.specs.Serial.{IsSerialContents, SpellsSerial}
use Rattle.rpki_time.specs.PeriodValue.{IsPeriod, SpellsPeriod}
use Rattle.rpki.specs.declared.crypto.keys.PublicKeyFormat.TheVariants.{Rsa, EcdsaP256}
use Rattle.rpki.specs.Oids.{rsa_encryption, ec_public_key, secp256r1}
use Rattle.rpki.specs.KeyFormat.{IsFormatContents, SpellsFormat}
use Rattle.rpki.specs.PublicKey.{IsKeyContents, SpellsKey}
use Rattle.rpki.specs.Name.{SpellsNameOctets}
use Rattle.rpki.specs.ExtensionValue.{SpellsExtension}
use Rattle.rpki.proofs.ExtensionLaws.{extension-value}
use Rattle.rpki.proofs.NameLaws.{each-values}
use Rattle.rpki_cert.specs.Cert.{TbsParts, version_tag, two, SpellsTwo, SpellsVersion, extensions_tag, AreExtensions}
use Rattle.rpki_cert.specs.Cert.{SpellsExtensionList, SpellsExtensions, fields_of, AreFields}
use Rattle.rpki_x509.specs.Signed.{SpellsRpkiAlgorithm}
use Rattle.rpki_cert.specs.Cert.{SpellsTbs}
use Rattle.rpki_x509.proofs.ValuesLaws.{SpellValues, algorithm-values, both-values, identified-values, inside-values}
use Rattle.rpki_x509.proofs.ValuesLaws.{leaf-values, name-values, time-values}

period-values : SpellValues SpellsPeriod
period-values = inside-values sequence IsPeriod (λ t c h.
    subst IsValueList (sym h.parts)
    (value_lists_append h.start h.end (time-values t.not_before h.start h.not_before)
    (time-values t.not_after h.end h.not_after)))

format-values : SpellValues IsFormatContents
format-values Rsa c h = identified-values rsa_encryption h.0 c h.1
format-values EcdsaP256 c h =
    both-values (SpellsLeaf oid false (IsOnly ec_public_key)) (SpellsLeaf oid false (IsOnly secp256r1))
    (leaf-values oid (IsOnly ec_public_key)) (leaf-values oid (IsOnly secp256r1)) (tt, tt) c h

key-values : SpellValues SpellsKey
key-values = inside-values sequence IsKeyContents (λ k c h.
    both-values SpellsFormat (SpellsLeaf bit_string false IsBits)
    (inside-values sequence IsFormatContents format-values) (leaf-values bit_string IsBits)
    (k.format, k.bits) c h)

extensions-values : SpellValues SpellsExtensions
extensions-values = inside-values extensions_tag SpellsExtensionList (inside-values sequence AreExtensions (λ xs c h.
    each-values SpellsExtension extension-value xs c h.some.each))

-- ---- all of them

fields-values : SpellValues AreFields
fields-values =
    both-values SpellsVersion _ (inside-values version_tag SpellsTwo (leaf-values integer (IsOnly two)))
    (both-values SpellsSerial _ (leaf-values integer IsSerialContents)
    (both-values SpellsRpkiAlgorithm _ algorithm-values
    (both-values SpellsNameOctets _ name-values
    (both-values SpellsPeriod _ period-values
    (both-values SpellsNameOctets _ name-values
    (both-values SpellsKey SpellsExtensions key-values extensions-values))))))

pub tbs-value : (t : TbsParts) (d : List ℕ) → SpellsTbs t d → IsValue d
tbs-value t d h = composed-value-alone sequence AreFields (fields_of t) d (fields-values (fields_of t)) h
