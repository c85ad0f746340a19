use Rattle.std.proofs.Common.{arith}
use Rattle.rpki_issue.proofs.ContentsLaws.{uri-few, full-few, point-name-few, point-few, points-spelled, first-is}
use Rattle.rpki_issue.proofs.contents.encode_points.Goals as goal

pub returns-clause-short : goal.returns-clause-short
returns-clause-short c =
    let uri = c.args.uri.now in
    let few = c.requires.few in
    let named = c.encode_general_name.ensures in
    let one = uri-few uri few in
    let two = full-few uri few in
    let three = point-name-few uri few in
    let four = point-few uri few in
    rw (c.new-4.ensures, c.new-3.ensures, c.new-2.ensures, c.new.ensures) (
      (
        (
          (named.short.1 (omega (arith, few)), rw named.encoded (omega (arith, one))),
          rw named.encoded (omega (arith, two)),
        ),
        rw named.encoded (omega (arith, three)),
      ),
      rw named.encoded (omega (arith, four)),
    )

pub returns-clause-read_back : goal.returns-clause-read_back
returns-clause-read_back c =
    let uri = c.args.uri.now in
    points-spelled uri c.requires.few c.requires.ascii (first-is uri c.requires.legal)
