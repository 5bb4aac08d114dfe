-- THEOREM (02, tickets 2 and 10): a file that has no balise of place above 1 was accepted by document 01 alone exactly where it is accepted
-- now and each of its names is one by document 01 alone.
use Prim.Native.Nat.{ℕ}
use mathlib.Core.Path.{◌≡◌}
use mathlib.Core.Logic.{◌↔◌}
use mathlib.Core.List.{List}
use Rattle.verdict.specs.Reasons.{number_in}
use Rattle.x2_verdict.specs.Facts.{verdict_of}
use Rattle.x2_verdict.specs.Obeys.{Obeys}
use Rattle.x2_theorems.specs.Base.{NoMembers, AllBaseNames, BaseObeys}
use Rattle.x2_theorems.proofs.Numbers.{accepted_is}

module _ (f : List ℕ) (none : NoMembers f) where
  obeyed : Obeys f → AllBaseNames f → BaseObeys f
  obeyed o names =
      let a = o.agreement in
      let r = o.returns in
      record {
        least = o.least;
        most = o.most;
        checksum = o.checksum;
        file_type = o.file_type;
        structure_version = o.structure_version;
        layout = o.layout;
        fields = o.fields;
        names = names;
        agreement = record { start_tracks = a.start_tracks; end_tracks = a.end_tracks; places = a.places };
        targets = o.targets;
        returns = record { returned = λ at m. r.returned at m (none at m); single = λ at m. r.single at m (none at m) };
      }

  obeys : BaseObeys f → Obeys f
  obeys o =
      let a = o.agreement in
      let r = o.returns in
      record {
        least = o.least;
        most = o.most;
        checksum = o.checksum;
        file_type = o.file_type;
        structure_version = o.structure_version;
        layout = o.layout;
        fields = o.fields;
        agreement = record { start_tracks = a.start_tracks; end_tracks = a.end_tracks; places = a.places; members = λ at m w. absurd (none at m w) };
        targets = o.targets;
        returns = record { returned = λ at m _. r.returned at m; single = λ at m _. r.single at m; members = λ at m w. absurd (none at m w) };
      }

  pub as_before : ((number_in (verdict_of f) ≡ 0) × AllBaseNames f) ↔ BaseObeys f
  as_before = (λ e. obeyed ((accepted_is f).0 e.0) e.1, λ o. ((accepted_is f).1 (obeys o), o.names))
