-- The list computed (02, ticket 9), link by link. The recursion counts down the objects that may still be listed.
use Rattle.std.specs.Prelude.{ℕ, zero, suc, cond, List, [], ◌∷◌, ◌++◌, length, eqb}
use Rattle.route_graph.specs.declared.Object.{Object}
use Rattle.route_walks.specs.Walks.{has}
use Rattle.ahead.specs.declared.Stop.{Stop}
use Rattle.ahead.specs.declared.Stop.TheVariants as stop
use Rattle.ahead.specs.declared.Sight.{Sight}
use Rattle.std.specs.Prelude.{Ok, Err}
use Rattle.ahead.specs.Ways.{Way, way_of}

-- the objects listed, and why no more
pub record Seen : Type 0 where
  pub objects : List ℕ
  pub stop : Stop

abbrev pub ends : List ℕ → Stop → Seen
ends listed s = record { objects = listed; stop = s }

-- after an object that was listed last: on by a link, or no further
-- 02: Ticket9.5
abbrev pub goes_on : Way → (ℕ → Seen) → List ℕ → Seen
goes_on (Ok x) more listed = more x
goes_on (Err s) more listed = ends listed s

-- by the link `to` of the object `from`, where some are listed and k more may be
-- 02: Ticket9.2
unfoldable pub ahead_from : (ℕ → Object) → List ℕ → ℕ → ℕ → List ℕ → ℕ → ℕ → Seen
ahead_from v lies passed zero listed from to =
    cond (eqb to 0) (ends listed stop.NoLink) (cond (has (passed ∷ listed) to) (ends listed stop.Repeated) (ends listed stop.Full))
ahead_from v lies passed (suc k) listed from to =
    cond (eqb to 0) (ends listed stop.NoLink)
    (cond (has (passed ∷ listed) to) (ends listed stop.Repeated)
    (goes_on (way_of (v to) from lies) (λ x. ahead_from v lies passed k (listed ++ (to ∷ [])) to x) (listed ++ (to ∷ []))))

-- how many, and why no more
abbrev pub sight_of : Seen → Sight
sight_of s = record { objects = length s.objects; stop = s.stop }
