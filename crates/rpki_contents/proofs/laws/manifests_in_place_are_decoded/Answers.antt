use Rattle.rpki_contents.proofs.InPlaceManifestLaws.{decoded-in-place, doubled-in-place, wrong-in-place}
use Rattle.rpki_contents.proofs.laws.manifests_in_place_are_decoded.Goals as goal

pub returns-clause-decoded : goal.returns-clause-decoded
returns-clause-decoded c = decoded-in-place c.args.bytes c.decode.result c.decode.ensures

pub returns-clause-doubled : goal.returns-clause-doubled
returns-clause-doubled c = doubled-in-place c.args.bytes c.decode.result c.decode.ensures

pub returns-clause-wrong : goal.returns-clause-wrong
returns-clause-wrong c = wrong-in-place c.args.bytes c.decode.result c.decode.ensures
