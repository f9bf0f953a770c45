use Rattle.std.proofs.Common.{◌≡◌, ◌∙◌, ℕ, ◌+◌, ap, sym, refl, arith, rules}
use borrow.Author.Tests.{eqb-true, eqb-false}
use Rattle.page.specs.Lines.{content_size}
use Rattle.page.specs.Places.{Standing}
use Rattle.commands.specs.Commands.{code}
use Rattle.commands.proofs.CodeLaws.{is_command}
use Rattle.headers.proofs.FoundLaws.{line_none, content_in, line_more, semicolon_in, found_here}
use Rattle.headers.proofs.find.find_line.Goals as goal

pub loop-line-init : goal.loop-line-init
loop-line-init c =
    let p : c.into_iter-line-iterator.result.at ≡ 0 = search rules in
    (search rules, omega arith, rw p refl)

pub overflow_add-to : goal.overflow_add-to
overflow_add-to c =
    let t = rw c.loop-line.invariant.0 at c.in-Some.ensures.steps.1 in
    let i = content_in c.args.h.now _ _ (c.loop-line.line-iterator.at + c.content_len.result) t.before t.size (ap (λ (x : ℕ). c.loop-line.line-iterator.at + x) (c.content_len.ensures ∙ ap content_size t.bytes)) in
    search rules

pub slice_bounds-c-end : goal.slice_bounds-c-end
slice_bounds-c-end c =
    let t = rw c.loop-line.invariant.0 at c.in-Some.ensures.steps.1 in
    let i = content_in c.args.h.now _ _ (c.loop-line.line-iterator.at + c.content_len.result) t.before t.size (ap (λ (x : ℕ). c.loop-line.line-iterator.at + x) (c.content_len.ensures ∙ ap content_size t.bytes)) in
    search rules

pub overflow_add-result : goal.overflow_add-result
overflow_add-result c =
    let at = c.loop-line.line-iterator.at in
    let t = rw c.loop-line.invariant.0 at c.in-Some.ensures.steps.1 in
    let n = ap (λ (x : ℕ). at + x) (c.content_len.ensures ∙ ap content_size t.bytes) in
    let i = content_in c.args.h.now _ _ (at + c.content_len.result) t.before t.size n in
    let x = eqb-true _ _ (sym (is_command _ c.args.k _ _ c.eq.ensures c.of.ensures) ∙ c.if-eq.true) in
    let z = semicolon_in c.args.h.now _ _ (at + c.content_len.result) t.before t.size n (code c.args.k) c.find_semicolon.result c.requires (rw t.at at x) (rw t.at at c.find_semicolon.ensures) in
    search rules

pub overflow_add-result-then-eq : goal.overflow_add-result-then-eq
overflow_add-result-then-eq c =
    let at = c.loop-line.line-iterator.at in
    let t = rw c.loop-line.invariant.0 at c.in-Some.ensures.steps.1 in
    let n = ap (λ (x : ℕ). at + x) (c.content_len.ensures ∙ ap content_size t.bytes) in
    let i = content_in c.args.h.now _ _ (at + c.content_len.result) t.before t.size n in
    let x = eqb-true _ _ (sym (is_command _ c.args.k _ _ c.eq.ensures c.of.ensures) ∙ c.if-eq.true) in
    let z = semicolon_in c.args.h.now _ _ (at + c.content_len.result) t.before t.size n (code c.args.k) c.find_semicolon.result c.requires (rw t.at at x) (rw t.at at c.find_semicolon.ensures) in
    search rules

pub returns-then-eq : goal.returns-then-eq
returns-then-eq c =
    let at = c.loop-line.line-iterator.at in
    let t = rw c.loop-line.invariant.0 at c.in-Some.ensures.steps.1 in
    let n = ap (λ (x : ℕ). at + x) (c.content_len.ensures ∙ ap content_size t.bytes) in
    let x = eqb-true _ _ (sym (is_command _ c.args.k _ _ c.eq.ensures c.of.ensures) ∙ c.if-eq.true) in
    rw t.at (found_here c.args.h.now _ _ (at + c.content_len.result) t.before t.size n (code c.args.k) c.find_semicolon.result c.requires (rw t.at at x) (rw t.at at c.find_semicolon.ensures) c.loop-line.invariant.2)

pub loop-line-preserved : goal.loop-line-preserved
loop-line-preserved c =
    let at = c.loop-line.line-iterator.at in
    let t = rw c.loop-line.invariant.0 at c.in-Some.ensures.steps.1 in
    let n = ap (λ (x : ℕ). at + x) (c.content_len.ensures ∙ ap content_size t.bytes) in
    let x = eqb-false _ _ (sym (is_command _ c.args.k _ _ c.eq.ensures c.of.ensures) ∙ c.if-eq.false) in
    (search rules, t.within, sym (line_more c.args.h.now _ _ (at + c.content_len.result) t.before t.size n (code c.args.k) (rw t.at at x)) ∙ c.loop-line.invariant.2)

pub returns : goal.returns
returns c =
    let o = rw c.loop-line.invariant.0 at c.in-None.ensures.steps.2 in
    let e = sym (line_none (code c.args.k) c.loop-line.line-iterator.at c.args.h.now o) ∙ c.loop-line.invariant.2 in
    record { order = omega arith; within = omega arith; at = ap (λ (x : Standing). x.at) e; rest = ap (λ (x : Standing). x.rest) e }
