use Rattle.std.proofs.Common.{refl, ◌∙◌}
use Rattle.rpki.specs.StrictName.{IsRpkiName, IsRouterName}
use Rattle.rpkibasic.proofs.InspectionLaws.{strict-so}
use Rattle.rpkibasic.proofs.names.lines_of.Goals as goal

pub returns : goal.returns
returns c = record {
  rpki = c.is_ok-rpki.result;
  router = c.is_ok-router.result;
  is_rpki = strict-so (IsRpkiName c.args.name.now) c.inspect_rpki.result c.is_ok-rpki.result c.is_ok-rpki.ensures.value
      c.inspect_rpki.ensures.ok c.inspect_rpki.ensures.err;
  is_router = strict-so (IsRouterName c.args.name.now) c.inspect_router.result c.is_ok-router.result
      c.is_ok-router.ensures.value c.inspect_router.ensures.ok c.inspect_router.ensures.err;
  lines = c.in_ok-push_line-2.ensures ∙ rw (
    c.in_ok-push_line.ensures,
    c.new-lines.ensures.items,
    c.yes_or_no.ensures,
    c.yes_or_no-2.ensures,
  ) refl;
}
