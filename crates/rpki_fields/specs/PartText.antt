-- Where octets are wrong that are no object of their kind.
use Rattle.std.specs.Prelude.{ℕ, List, codes, Option, Some, None}
use Rattle.rpki_cert.specs.declared.read.cert_part.CertPart.{CertPart}
use Rattle.rpki_cert.specs.declared.read.cert_part.CertPart.TheVariants as C
use Rattle.rpki_crl.specs.declared.crl_part.CrlPart.{CrlPart}
use Rattle.rpki_crl.specs.declared.crl_part.CrlPart.TheVariants as L
use Rattle.rpki_objects.specs.declared.object_part.ObjectPart.{ObjectPart}
use Rattle.rpki_objects.specs.declared.object_part.ObjectPart.TheVariants as O
use Rattle.rpki_contents.specs.declared.manifest_part.ManifestPart.{ManifestPart}
use Rattle.rpki_contents.specs.declared.manifest_part.ManifestPart.TheVariants as M
use Rattle.rpki_contents.specs.declared.roa_view.RoaPart.{RoaPart}
use Rattle.rpki_contents.specs.declared.roa_view.RoaPart.TheVariants as R
use Rattle.rpki_contents.specs.declared.aspa_view.AspaPart.{AspaPart}
use Rattle.rpki_contents.specs.declared.aspa_view.AspaPart.TheVariants as A
use Rattle.rpki_records.specs.declared.card.CardPart.{CardPart}
use Rattle.rpki_records.specs.declared.card.CardPart.TheVariants as G
use Rattle.rpki_records.specs.declared.checklist.ChecklistPart.{ChecklistPart}
use Rattle.rpki_records.specs.declared.checklist.ChecklistPart.TheVariants as K
use Rattle.rpki_records.specs.declared.tak.TakPart.{TakPart}
use Rattle.rpki_records.specs.declared.tak.TakPart.TheVariants as T
use Rattle.rpki_fields.specs.declared.part.Part.{Part}
use Rattle.rpki_fields.specs.declared.part.Part.TheVariants as P

-- what a person reads of a part, in front of what is wrong; nothing where all of the octets are wrong

abbrev pub cert_text : CertPart → List ℕ
cert_text C.Certificate = codes ""
cert_text C.Signed = codes "in what is signed: "
cert_text C.Algorithm = codes "in its algorithm: "
cert_text C.Signature = codes "in its signature: "
cert_text C.Tbs = codes "in what is signed: "
cert_text C.Version = codes "in its version: "
cert_text C.SerialNumber = codes "in its serial number: "
cert_text C.TbsAlgorithm = codes "in the algorithm that is signed: "
cert_text C.Issuer = codes "in its issuer: "
cert_text C.Validity = codes "in its period: "
cert_text C.Subject = codes "in its subject: "
cert_text C.PublicKey = codes "in its key: "
cert_text C.Extensions = codes "in its extensions: "
cert_text C.ExtensionCount = codes "in its extensions: "
cert_text C.ExtensionIdentifiers = codes "in its extensions: "
cert_text C.SameAlgorithm = codes "in its algorithms: "

abbrev pub list_text : CrlPart → List ℕ
list_text L.List = codes ""
list_text L.Signed = codes "in what is signed: "
list_text L.Algorithm = codes "in its algorithm: "
list_text L.Signature = codes "in its signature: "
list_text L.Tbs = codes "in what is signed: "
list_text L.Version = codes "in its version: "
list_text L.TbsAlgorithm = codes "in the algorithm that is signed: "
list_text L.Issuer = codes "in its issuer: "
list_text L.ThisUpdate = codes "in this update: "
list_text L.NextUpdate = codes "in the next update: "
list_text L.RevokedCerts = codes "in its entries: "
list_text L.Extensions = codes "in its extensions: "
list_text L.SameAlgorithm = codes "in its algorithms: "

abbrev pub object_text : ObjectPart → List ℕ
object_text O.Object = codes ""
object_text O.ObjectType = codes "in its type: "
object_text O.SignedData = codes "in the signed data: "
object_text O.Version = codes "in the version of the signed data: "
object_text O.DigestAlgorithms = codes "in the digest algorithms: "
object_text O.Content = codes "in the content: "
object_text O.Certificates = codes "in the certificates: "
object_text (O.Certificate part) = codes "in the signer's certificate: "
object_text O.Signers = codes "in the signers: "
object_text O.Signer = codes "in the signer: "
object_text O.SignerVersion = codes "in the signer's version: "
object_text O.SignerIdentifier = codes "in the signer's identifier: "
object_text O.SignerDigestAlgorithm = codes "in the signer's digest algorithm: "
object_text O.SignedAttrs = codes "in the signed attributes: "
object_text O.SignatureAlgorithm = codes "in the algorithm of the signature: "
object_text O.Signature = codes "in the signature: "

abbrev pub manifest_text : ManifestPart → List ℕ
manifest_text M.Manifest = codes "in the content: "
manifest_text M.Number = codes "in the manifest's number: "
manifest_text M.ThisUpdate = codes "in the manifest's this update: "
manifest_text M.NextUpdate = codes "in the manifest's next update: "
manifest_text M.HashAlgorithm = codes "in the manifest's algorithm: "
manifest_text M.FileList = codes "in the list of files: "
manifest_text M.Order = codes "in the manifest's times: "

abbrev pub origin_text : RoaPart → List ℕ
origin_text R.Attestation = codes "in the content: "
origin_text R.AsId = codes "in the AS number: "
origin_text R.AddressBlocks = codes "in the prefixes: "

abbrev pub provider_text : AspaPart → List ℕ
provider_text A.Attestation = codes "in the content: "
provider_text A.Version = codes "in the content's version: "
provider_text A.Customer = codes "in the customer: "
provider_text A.Providers = codes "in the providers: "

abbrev pub checklist_text : ChecklistPart → List ℕ
checklist_text K.Checklist = codes "in the content: "
checklist_text K.Version = codes "in the content's version: "
checklist_text K.Resources = codes "in the resources: "
checklist_text K.DigestAlgorithm = codes "in the algorithm of the digests: "
checklist_text K.CheckList = codes "in the list of files: "

abbrev pub anchor_keys_text : TakPart → List ℕ
anchor_keys_text T.Tak = codes "in the content: "
anchor_keys_text T.Version = codes "in the content's version: "
anchor_keys_text T.Current = codes "in the current key: "
anchor_keys_text T.Predecessor = codes "in the predecessor: "
anchor_keys_text T.Successor = codes "in the successor: "

abbrev pub card_text : CardPart → List ℕ
card_text G.Text = codes "in the content: "
card_text G.Begin = codes "in the first line: "
card_text G.Version = codes "in the content's version: "
card_text G.Property = codes "in the properties: "
card_text G.End = codes "in the last line: "
card_text G.Name = codes "in the name: "
card_text G.Contact = codes "in the address, telephone number and email address: "

abbrev pub part_text : Part → List ℕ
part_text (P.Cert part) = cert_text part
part_text (P.List part) = list_text part
part_text (P.Object part) = object_text part
part_text (P.Manifest part) = manifest_text part
part_text (P.Origins part) = origin_text part
part_text (P.Providers part) = provider_text part
part_text (P.Checklist part) = checklist_text part
part_text (P.AnchorKeys part) = anchor_keys_text part
part_text (P.Card part) = card_text part

abbrev pub text_of_part : Option Part → List ℕ
text_of_part None = codes ""
text_of_part (Some place) = part_text place
