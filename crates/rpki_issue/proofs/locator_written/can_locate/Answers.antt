use Rattle.std.proofs.Common.{◌≤◌, length, ap, refl, arith}
use Rattle.std.proofs.lemmas.Bool.{le-ltb}
use Rattle.rpki_issue.proofs.LocatorLaws.{short-locates, long-locates}
use Rattle.rpki_issue.proofs.locator_written.can_locate.Goals as goal

pub returns-then-as_slice-lt3080 : goal.returns-then-as_slice-lt3080
returns-then-as_slice-lt3080 c =
    let s = c.as_slice.ensures in
    let uri = c.in-Rsync.uri in
    let read = s.parses_again (omega (arith, ap length s.text, c.if-as_slice-lt3080.true)) in
    rw c.in-Rsync.is (short-locates uri c.path_is_dir.result s.form read c.path_is_dir.ensures)

pub returns-else-as_slice-lt3080 : goal.returns-else-as_slice-lt3080
returns-else-as_slice-lt3080 c =
    let s = c.as_slice.ensures in
    let uri = c.in-Rsync.uri in
    let long : 3080 ≤ length uri = omega (arith, ap length s.text, c.if-as_slice-lt3080.false) in
    let no = long-locates uri s.form long in
    rw (c.in-Rsync.is, no, le-ltb (length c.as_slice.result.now) 3080 c.if-as_slice-lt3080.false) refl
