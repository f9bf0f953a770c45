use mathlib.Core.Path.{refl, ap, sym, ◌∙◌}
use borrow.Author.Rules.{rules}
use Rattle.keys.specs.Numbers.{packed}
use Rattle.keys.specs.declared.read.TheConstants.{WORDS}
use Rattle.keys.proofs.WordLaws.{text_told, text_else}
use Rattle.keys.proofs.read.take_text.Goals as goal

pub slice_bounds-pack_own-count : goal.slice_bounds-pack_own-count
slice_bounds-pack_own-count c = let a = c.args in
    let x = c.read_field-x in
    let t = text_told a.w.now a.at c.requires WORDS refl (search rules) x.result.field x.ensures.1 c.in-Text.sp c.in-Text.is in
    search rules

pub slice_bounds-pack_own-start : goal.slice_bounds-pack_own-start
slice_bounds-pack_own-start c = let a = c.args in
    let x = c.read_field-x in
    let t = text_told a.w.now a.at c.requires WORDS refl (search rules) x.result.field x.ensures.1 c.in-Text.sp c.in-Text.is in
    search rules

pub slice_bounds-pack_own-end : goal.slice_bounds-pack_own-end
slice_bounds-pack_own-end c = let a = c.args in
    let x = c.read_field-x in
    let t = text_told a.w.now a.at c.requires WORDS refl (search rules) x.result.field x.ensures.1 c.in-Text.sp c.in-Text.is in
    search rules

pub returns-in_default : goal.returns-in_default
returns-in_default c = let a = c.args in
    let x = c.read_field-x in
    (x.ensures.0, sym (text_else a.w.now a.at c.requires WORDS refl (search rules) x.result.field x.ensures.1 c.in_default.not-Text))

pub returns : goal.returns
returns c = let a = c.args in
    let x = c.read_field-x in
    let t = text_told a.w.now a.at c.requires WORDS refl (search rules) x.result.field x.ensures.1 c.in-Text.sp c.in-Text.is in
    (x.ensures.0, c.pack_own.ensures ∙ ap packed t.2)
