-- Definitions: what the contracts say. They are trusted, and read against the standards.
pub mod ExtensionList
pub mod Cert
pub mod Known
pub mod ExtensionContent
pub mod GeneralName
pub mod Access
pub mod AccessDescription
pub mod AccessInformation
pub mod CertError
pub mod View
pub mod CertFault
pub mod Kept
pub mod ExtensionTable
pub mod KnownView
pub mod Inspected
pub mod Keys
pub mod NameValues
pub mod ResourceExtensions
pub mod RuleWords
pub mod Rule
pub mod RuleError
pub mod Profile
-- Lemmas that an `impl` cites.
pub mod ContentLaws
