-- Which lemma file answers which question.
--
-- Statuses of errors, of keys, of names, and of what is made on a condition: StatusLaws. Signatures: VerificationLaws.
-- Signed data read in place, and any algorithm identifier: SignedLaws.
-- Moments of times: MomentLaws. Hexadecimal digits and base 64: TextLaws.
-- Where octets go wrong: FaultLaws. The index, in the middle of its writing: FillingLaws.
-- Parts of parsed URIs, by their places: PlaceLaws.
-- Parts of certificates, and one that is checked against a profile: CertificateLaws; of revocation lists, signed
--   objects, manifests and attestations: ObjectLaws. The list among a manifest's files: ListingLaws; where certificates
--   say that it is: ListNameLaws, ManifestLaws. Tables of serial numbers: SerialTableLaws.
-- The entries that octets are: RevokedLaws.
-- Certificates, lists and objects of which each status is 0, as the layer says it: BelowLaws. Paths of authorities:
--   PathLaws; the resources of their certificates: HeldLaws, BlocksBackLaws; of objects' certificates: SignerPathLaws;
--   octets are one certificate at most: OneCertLaws.
-- Resources: entries of blocks, how many there are, what their contents' statuses say, and settled: ResourceLaws;
--   their version: PolicyLaws.

mod VerificationLaws
mod MomentLaws
mod SignedLaws
mod FaultLaws
mod FillingLaws
mod PlaceLaws
mod StatusLaws
pub mod CertificateLaws
mod TextLaws
mod SerialTableLaws
pub mod ObjectLaws
mod ResourceLaws
mod BelowLaws
mod ListingLaws
mod ListNameLaws
mod ManifestLaws
mod PolicyLaws
mod RevokedLaws
mod OneCertLaws
mod BlocksBackLaws
mod HeldLaws
mod PathLaws
mod SignerPathLaws
