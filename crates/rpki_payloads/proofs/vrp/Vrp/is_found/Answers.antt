use Rattle.std.proofs.Common.{◌∙◌}
use Rattle.rpki_payloads.proofs.AloneLaws.{found-among}
use Rattle.rpki_payloads.proofs.vrp.Vrp.is_found.Goals as goal

pub returns : goal.returns
returns c =
    let s = c.binary_search.ensures in
    c.is_ok.ensures.value ∙ found-among c.args.vrps.now c.args.self _ c.requires s.bound s.position
