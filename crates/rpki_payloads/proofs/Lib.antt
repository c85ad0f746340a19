-- Which lemma file answers which question.
--
-- Whether a payload is among others: AloneLaws. Rows that another validator wrote: ListedLaws. What is found, and that
-- there is nothing else: FindsLaws.
-- That payloads which compare as equal are one, and which are among converted ones: OrderLaws. The providers of a
-- customer together: VapLaws.
-- What is among a list, one by one: AmongLaws. What is looked for there, and files in conflict: ConflictLaws.
-- Keys of a list, gathered in a set: GatheredLaws. Which filters match a payload: FilterKeyLaws. What filters leave of
-- the keys of routers: AskedLaws; the parts of one: PartLaws. Addresses that prefixes have in common: SharedLaws. The
-- latest end of a payload: TimedLaws. Local exceptions, and how many members an object of JSON has: ExceptionLaws,
-- MemberLaws. Texts of metrics: MetricLaws.

mod AloneLaws
mod AmongLaws
mod AskedLaws
mod ConflictLaws
pub mod ExceptionLaws
mod FilterKeyLaws
mod FindsLaws
mod GatheredLaws
mod ListedLaws
pub mod MemberLaws
mod MetricLaws
mod OrderLaws
mod PartLaws
mod SharedLaws
mod TimedLaws
mod VapLaws
