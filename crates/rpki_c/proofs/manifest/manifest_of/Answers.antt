use Rattle.std.proofs.Common.{◌∙◌, refl, sym}
use Rattle.rpki_contents.specs.ManifestView.{parts_in}
use Rattle.rpki_c.proofs.ObjectLaws.{is-listing, held, is-time}
use Rattle.rpki_c.proofs.MomentLaws.{moment}
use Rattle.rpki_c.proofs.manifest.manifest_of.Goals as goal

pub returns : goal.returns
returns c =
    let s = c.args.octets.now in
    let v = c.args.found.now in
    let at = c.requires.1 in
    let f = at.fields.spelled in
    let g = f.two.two in
    record {
      manifest = parts_in v c.requires.0;
      listing = is-listing s v c.requires.0 at;
      number = c.into_array.ensures.value;
      this_update = moment c.moment_of.ensures refl (is-time v.this_update f.two.first f.two.one);
      next_update = moment c.moment_of-2.ensures refl (is-time v.next_update g.first g.one);
      files = rw (c.of.ensures, c.octets.ensures) (held s v c.requires.0 at).files;
      count = c.count.ensures ∙ sym at.fields.count;
    }
