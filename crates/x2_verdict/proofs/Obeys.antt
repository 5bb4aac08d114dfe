-- THEOREM (demand 2): an X.2 file is accepted exactly where it obeys, from the theorems of its checks.
use mathlib.Core.Path.{◌≡◌}
use mathlib.Core.Logic.{◌↔◌}
use mathlib.Core.List.{List, ◌++◌}
use Prim.Native.Nat.{ℕ}
use Rattle.verdict.specs.Facts.{AllHold}
use Rattle.std.specs.Prelude.{Ok}
use Rattle.verdict.proofs.Facts.{accepted_iff, all_append}
use native.Mathlib.Omega.{arith}
use Rattle.rules.specs.Rules.{Between}
use Rattle.envelope.specs.Seal.{structure_of, seal_facts}
use Rattle.x2_layout.specs.Layout.{layout_of}
use Rattle.x2_layout.specs.Facts.{layout_facts}
use Rattle.x2_layout.proofs.Obeys.{layout_obeyed}
use Rattle.x2_layout.proofs.Regions.{regions, some_boundary}
use Rattle.x2_fields.specs.Fields.{field_facts}
use Rattle.x2_fields.specs.Agreement.{agreement_facts}
use Rattle.x2_obeys.proofs.Fields.{fields_iff, agreement_iff}
use Rattle.x2_links.specs.Links.{target_facts, return_facts}
use Rattle.x2_obeys.proofs.Links.{targets_iff, returns_iff}
use Rattle.x2_verdict.specs.Facts.{file_type, newest_version, record_facts, check_facts, facts, judged_of}
use Rattle.x2_verdict.specs.Obeys.{Obeys}

-- from 1 to 1 is 1
pub one_iff : (x : ℕ) → Between 1 1 x ↔ (x ≡ 1)
one_iff x = (λ h. omega arith, λ e. (omega arith, omega arith))

pub accepted_obeys : (f : List ℕ) → (judged_of f ≡ Ok tt) ↔ Obeys f
unfolding facts check_facts record_facts AllHold
accepted_obeys f =
    let l = layout_of f in
    let all = accepted_iff (facts f) in
    let sealed = all_append (seal_facts f file_type newest_version) (layout_facts f l ++ record_facts f l) in
    let laid = all_append (layout_facts f l) (record_facts f l) in
    let filled = all_append (field_facts f l) (agreement_facts f l ++ (target_facts f l ++ return_facts f l)) in
    let agreed = all_append (agreement_facts f l) (target_facts f l ++ return_facts f l) in
    let linked = all_append (target_facts f l) (return_facts f l) in (
      λ q.
          let h = all.0 q in
          let e = sealed.0 h.1 in
          let y = laid.0 e.1 in
          let d = filled.0 y.1 in
          let g = agreed.0 d.1 in
          let t = linked.0 g.1 in
          let o = (layout_obeyed f l).0 y.0 in
          let s = some_boundary (regions f o) in
          record {
            least = h.0.0;
            most = h.0.1;
            checksum = e.0.0;
            file_type = e.0.1.0;
            structure_version = (one_iff (structure_of f)).0 e.0.1.1.0;
            layout = o;
            fields = (fields_iff f l).0 d.0;
            agreement = (agreement_iff f l s).0 g.0;
            targets = (targets_iff f l).0 t.0;
            returns = (returns_iff f l s).0 t.1;
          },
      λ o. let s = some_boundary (regions f o.layout) in all.1 (
        (o.least, o.most),
        sealed.1 (
          (o.checksum, (o.file_type, ((one_iff (structure_of f)).1 o.structure_version, tt))),
          laid.1 (
            (layout_obeyed f l).1 o.layout,
            filled.1 (
              (fields_iff f l).1 o.fields,
              agreed.1 ((agreement_iff f l s).1 o.agreement, linked.1 ((targets_iff f l).1 o.targets, (returns_iff f l s).1 o.returns)),
            ),
          ),
        ),
      ),
    )
