use Prim.Native.Nat.{ℕ, ◌+◌}
use mathlib.Core.Path.{ap}
use native.Mathlib.Omega.{arith}
use borrow.Author.Rules.{rules}
use Rattle.headers.proofs.FoundLaws.{content_in}
use Rattle.page.proofs.LineLaws.{line_in}
use Rattle.places.proofs.PlaceLaws.{fields_in, fields_placed}
use Rattle.places.proofs.place_fields.Goals as goal

pub slice_bounds-content_len-count : goal.slice_bounds-content_len-count
slice_bounds-content_len-count c =
    let a = c.args in
    let i = line_in a.s.now a.at a.e c.requires.0 c.requires.1 in
    omega arith

pub slice_bounds-content_len-end : goal.slice_bounds-content_len-end
slice_bounds-content_len-end c =
    let a = c.args in
    let i = line_in a.s.now a.at a.e c.requires.0 c.requires.1 in
    search rules

pub overflow_add-to : goal.overflow_add-to
overflow_add-to c =
    let a = c.args in
    let to = a.at + c.content_len.result in
    let i = content_in a.s.now a.at a.e to c.requires.0 c.requires.1 (ap (λ (n : ℕ). a.at + n) c.content_len.ensures) in
    search rules

pub slice_bounds-find_semicolon-end : goal.slice_bounds-find_semicolon-end
slice_bounds-find_semicolon-end c =
    let a = c.args in
    let to = a.at + c.content_len.result in
    let i = content_in a.s.now a.at a.e to c.requires.0 c.requires.1 (ap (λ (n : ℕ). a.at + n) c.content_len.ensures) in
    search rules

pub overflow_add-result : goal.overflow_add-result
overflow_add-result c =
    let a = c.args in
    let to = a.at + c.content_len.result in
    let i = fields_in a.s.now a.at a.e c.requires.0 c.requires.1 to (ap (λ (n : ℕ). a.at + n) c.content_len.ensures) c.requires.2 c.find_semicolon-i.result c.find_semicolon-i.ensures in
    search rules

pub overflow_add-result-2 : goal.overflow_add-result-2
overflow_add-result-2 c =
    let a = c.args in
    let to = a.at + c.content_len.result in
    let i = fields_in a.s.now a.at a.e c.requires.0 c.requires.1 to (ap (λ (n : ℕ). a.at + n) c.content_len.ensures) c.requires.2 c.find_semicolon-i.result c.find_semicolon-i.ensures in
    search rules

pub returns : goal.returns
returns c =
    let a = c.args in
    let to = a.at + c.content_len.result in
    fields_placed a.s.now a.at a.e c.requires.0 c.requires.1 to (ap (λ (n : ℕ). a.at + n) c.content_len.ensures) c.requires.2 c.find_semicolon-i.result c.find_semicolon-i.ensures a.m
