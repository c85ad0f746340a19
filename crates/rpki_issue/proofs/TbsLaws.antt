-- What is signed of a certificate is read back.
use Rattle.std.proofs.Common.{◌<◌, ◌^◌, ℕ, true, false, List, ◌++◌, length, refl, arith, lit<}
use Rattle.rpki_der.specs.Prelude.{sequence, integer, tlv, IsOnly, sequence_legal}
use Rattle.rpki_der.proofs.EncodeLaws.{leaf-legal, tlv_at_most}
use Rattle.rpki_time.specs.Serial.{serial_octets}
use Rattle.rpki_time.specs.Validity.{AreTimeYears}
use Rattle.rpki_time.specs.PeriodValue.{period_octets}
use Rattle.rpki_time.proofs.PeriodReadingLaws.{period-spelled}
use Rattle.rpki_time.proofs.SerialReadingLaws.{serial-spelled}
use Rattle.rpki.specs.Oids.{sha256_with_rsa_encryption}
use Rattle.rpki.specs.AlgorithmOctets.{algorithm_octets}
use Rattle.rpki.specs.AlgorithmOctetsLaws.{algorithm-spelled}
use Rattle.rpki.specs.Prelude.{SpellsNameOctets}
use Rattle.rpki.specs.PublicKey.{key_octets, key_contents, IsShortKey, SpellsKey}
use Rattle.rpki.specs.ExtensionValue.{ExtensionParts}
use Rattle.rpki_x509.specs.TagLaws.{zero_legal, integer-legal}
use Rattle.rpki_x509.proofs.WrittenLaws.{front-few, back-few, inside-few}
use Rattle.rpki_cert.specs.Cert.{AreExtensions, SpellsExtensions, SpellsExtensionList, SpellsVersion, SpellsTbs}
use Rattle.rpki_cert.specs.Cert.{AreFields}
use Rattle.rpki_cert.specs.Cert.{extensions_tag, version_tag, two, two_value, fields_of}
use Rattle.rpki_issue.specs.TagLaws.{three_legal}
use Rattle.rpki_issue.specs.Tbs.{Issued, version_octets, extensions_octets, keyed_octets, named_octets, tbs_contents}
use Rattle.rpki_issue.specs.Tbs.{tbs_octets, IsShortTbs, normal_tbs}

version-few : length (tlv integer false two) < 2 ^ 32
version-few = omega (arith, tlv_at_most integer false two)

version-spelled : SpellsVersion tt version_octets
version-spelled =
    leaf-legal version_tag true two_value.spells tt (tlv integer false two) zero_legal version-few
    (leaf-legal integer false (IsOnly two) tt two integer-legal (lit< tt) refl)

-- ---- a length announces each part

module _ (x : Issued) (e : List ℕ) (short : IsShortTbs x e) where
  abbrev algorithm : List ℕ
  algorithm = algorithm_octets sha256_with_rsa_encryption true

  pub named-short : length (named_octets x e) < 2 ^ 32
  named-short =
      back-few algorithm (named_octets x e)
      (back-few (serial_octets x.serial) (algorithm ++ named_octets x e)
      (back-few version_octets (serial_octets x.serial ++ (algorithm ++ named_octets x e)) short))

  validity-short : length (period_octets x.validity ++ keyed_octets x e) < 2 ^ 32
  validity-short = back-few x.issuer (period_octets x.validity ++ keyed_octets x e) named-short

  pub subject-short : length (key_octets x.key ++ extensions_octets e) < 2 ^ 32
  subject-short =
      back-few x.subject (key_octets x.key ++ extensions_octets e)
      (back-few (period_octets x.validity) (keyed_octets x e) validity-short)

  pub key-short : IsShortKey x.key
  key-short =
      inside-few sequence true (key_contents x.key) (front-few (key_octets x.key) (extensions_octets e) subject-short)

  pub list-short : length (tlv sequence true e) < 2 ^ 32
  list-short =
      inside-few extensions_tag true (tlv sequence true e)
      (back-few (key_octets x.key) (extensions_octets e) subject-short)

  pub each-short : length e < 2 ^ 32
  each-short = inside-few sequence true e list-short

  -- ---- it is read back

  module _ (xs : List ExtensionParts) (all : AreExtensions xs e) where
    extensions-spelled : SpellsExtensions xs (extensions_octets e)
    extensions-spelled =
        leaf-legal extensions_tag true SpellsExtensionList xs (tlv sequence true e) three_legal list-short
        (leaf-legal sequence true AreExtensions xs e sequence_legal each-short all)

    pub tbs-spelled : x.serial < 2 ^ 159 → SpellsNameOctets x.issuer x.issuer → AreTimeYears x.validity
        → SpellsNameOctets x.subject x.subject → SpellsKey x.key (key_octets x.key)
        → SpellsTbs (normal_tbs x xs) (tbs_octets x e)
    tbs-spelled small issuer years subject key =
        leaf-legal sequence true AreFields (fields_of (normal_tbs x xs)) (tbs_contents x e) sequence_legal short
        (record {
          first = version_octets;
          second = serial_octets x.serial ++ (algorithm ++ named_octets x e);
          parts = refl;
          one = version-spelled;
          two = record {
            first = serial_octets x.serial;
            second = algorithm ++ named_octets x e;
            parts = refl;
            one = serial-spelled x.serial small;
            two = record {
              first = algorithm;
              second = named_octets x e;
              parts = refl;
              one = algorithm-spelled sha256_with_rsa_encryption true (lit< tt);
              two = record {
                first = x.issuer;
                second = period_octets x.validity ++ keyed_octets x e;
                parts = refl;
                one = issuer;
                two = record {
                  first = period_octets x.validity;
                  second = keyed_octets x e;
                  parts = refl;
                  one = period-spelled x.validity years;
                  two = record {
                    first = x.subject;
                    second = key_octets x.key ++ extensions_octets e;
                    parts = refl;
                    one = subject;
                    two = record {
                      first = key_octets x.key;
                      second = extensions_octets e;
                      parts = refl;
                      one = key;
                      two = extensions-spelled;
                    };
                  };
                };
              };
            };
          };
        })
