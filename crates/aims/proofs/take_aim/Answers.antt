use mathlib.Core.Path.{refl}
use borrow.Author.Rules.{rules}
use Rattle.aims.proofs.AimLaws.{aimed_none, aimed_some, target_bounds, target_ordered}
use Rattle.aims.proofs.take_aim.Goals as goal

pub choose_reference-refer-requires : goal.choose_reference-refer-requires
choose_reference-refer-requires c = c.requires.1.orderly

pub returns-in_default : goal.returns-in_default
returns-in_default c =
    aimed_none _ _ c.requires.0 _ _ c.requires.1.arranged _ c.choose_reference-refer.result c.choose_reference-refer.ensures _ c.find_target-target.ensures _ c.in_default.ensures refl

pub choose_key-key-requires : goal.choose_key-key-requires
choose_key-key-requires c =
    let t = c.in-Some.ensures in
    (target_ordered _ _ c.requires.0 c.find_target-target.result t.0 _ t.1).stands.orderly

pub slice_bounds-result-count : goal.slice_bounds-result-count
slice_bounds-result-count c =
    let t = c.in-Some.ensures in
    (target_bounds _ _ c.requires.0 c.find_target-target.result t.0 _ t.1).0

pub slice_bounds-result-start : goal.slice_bounds-result-start
slice_bounds-result-start c =
    let t = c.in-Some.ensures in
    let b = target_bounds _ _ c.requires.0 c.find_target-target.result t.0 _ t.1 in
    search rules

pub slice_bounds-result-end-2 : goal.slice_bounds-result-end-2
slice_bounds-result-end-2 c =
    let t = c.in-Some.ensures in
    let b = target_bounds _ _ c.requires.0 c.find_target-target.result t.0 _ t.1 in
    search rules

pub returns : goal.returns
returns c =
    let t = c.in-Some.ensures in
    aimed_some _ _ c.requires.0 _ _ c.requires.1.arranged _ c.choose_reference-refer.result c.choose_reference-refer.ensures _ c.find_target-target.ensures t.0 _ t.1 _ refl refl c.choose_key-key.ensures
