use Rattle.page.specs.Bytes.{bytes}
use Rattle.output.proofs.OutputLaws.{puts, put_as}
use Rattle.writing.proofs.SoundLaws.{accepted_passing}
use Rattle.writing.proofs.FormLaws.{accepted_short, form_is}
use Rattle.writing.proofs.file.put_form.Goals as goal

pub read_values-requires : goal.read_values-requires
read_values-requires c = accepted_short c.args.s.now c.requires

pub put_sections-n-requires : goal.put_sections-n-requires
put_sections-n-requires c = accepted_passing c.args.s.now c.requires

pub returns : goal.returns
unfolding bytes
returns c =
    let a = c.args in
    put_as (form_is a.s.now c.requires a.plan _ _ c.read_values.ensures c.put_sections-n.ensures.count)
    (puts c.put_head.ensures (puts c.put_sections-n.ensures.form c.put_count_line.ensures))
