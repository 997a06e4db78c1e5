-- What holds while blocks are worked out one by one.
use Rattle.std.proofs.Common.{◌≡◌, ℕ, Bool, true, List, [], ◌∷◌, ◌++◌, All, Contains, subst, arith}
use Rattle.std.proofs.lemmas.List.Elements.{All-weaker}
use Rattle.tsa_core.specs.Control.{Edge}
use Rattle.tsa_graph.specs.declared.sequence.Blocks.{Blocks}
use Rattle.tsa_graph.specs.Rows.{AreBlocksOf, IsRun}
use Rattle.tsa_rules.specs.declared.case.Case.{Case}
use Rattle.tsa_rules.specs.declared.status.Status.{Status}
use Rattle.tsa_rules.specs.declared.statuses.Statuses.{Statuses}
use Rattle.tsa_flow_solver.specs.Evenness.{AreEvenOrWait, IsEnteredEvenly, IsTurnedEvenly}
use Rattle.tsa_flow_solver.specs.Fronts.{HasMore}
use Rattle.tsa_flow_solver.specs.Passing.{ArePoints}
use Rattle.tsa_flow_solver.specs.Turns.{AreOpen, AreSound, HaveBegun, IsTurn}
use Rattle.tsa_flow_solver.proofs.Complete.{open_first, sound_first}
use Rattle.tsa_flow_solver.proofs.Evenly.{entered_first, entered_on, even_first, even_on}
use Rattle.tsa_flow_solver.proofs.LongerWalks.{walks}
use Rattle.tsa_flow_solver.proofs.Turning.{open_on, sound_on}

-- in one lane
pub record Settling (entry : Status) (cases : ℕ → Case) (points : ℕ) (blocks : Blocks) (initial rows : List Statuses) (work : List ℕ) : Type 0 where
  pub more : (es : List Edge) → AreBlocksOf points es blocks → HasMore initial rows
  pub sound : (es : List Edge) → AreBlocksOf points es blocks → AreSound (walks es entry cases) blocks.blocks.items rows
  pub waits : (es : List Edge) → AreBlocksOf points es blocks → AreOpen cases blocks.blocks.items rows work

pub settling_first : (entry : Status) (cases : ℕ → Case) (points : ℕ) (blocks : Blocks) (rows : List Statuses) (work : List ℕ) → HaveBegun entry blocks rows work
    → Settling entry cases points blocks rows rows work
settling_first entry cases points blocks rows work begun = record {
  more = λ es are c s h. h;
  sound = λ es are. sound_first entry cases blocks rows work begun points es are;
  waits = λ es are. open_first entry cases blocks rows work begun;
}

-- the points of blocks of a body are as many as the body has
pub points_of_blocks : (n : ℕ) (es : List Edge) (blocks : Blocks) → AreBlocksOf n es blocks → All (ArePoints n) blocks.blocks.items
points_of_blocks n es blocks are = All-weaker (IsRun n es) (ArePoints n) (λ b run i low. run.points i 0 (omega (arith, run.long, low))) blocks.blocks.items are.runs

pub settling_on : (entry : Status) (cases : ℕ → Case) (points : ℕ) (blocks : Blocks) (initial rows new : List Statuses) (number : ℕ) (before work work' : List ℕ)
    → before ≡ work ++ number ∷ [] → ((c : ℕ) → Contains work c → Contains work' c) → Settling entry cases points blocks initial rows before
    → (All (ArePoints points) blocks.blocks.items → IsTurn cases blocks.blocks.items number rows new work work') → Settling entry cases points blocks initial new work'
settling_on entry cases points blocks initial rows new number before work work' is keeps h turn = record {
  more = λ es are c s x. (turn (points_of_blocks points es blocks are)).out.more c s (h.more es are c s x);
  sound = λ es are. sound_on cases blocks.blocks.items number rows new work work' (turn (points_of_blocks points es blocks are)) keeps points es entry are.runs are.exits (h.sound es are);
  waits = λ es are. open_on cases blocks.blocks.items number rows new work work' (turn (points_of_blocks points es blocks are)) keeps (subst (AreOpen cases blocks.blocks.items rows) is (h.waits es are));
}

-- and evenly, as long as all that is brought is
pub record SettlingEvenly (entry : Status) (cases : ℕ → Case) (points : ℕ) (blocks : Blocks) (rows : List Statuses) (work : List ℕ) (even : Bool) : Type 0 where
  pub entered : (es : List Edge) → AreBlocksOf points es blocks → even ≡ true → IsEnteredEvenly entry blocks rows
  pub waits : (es : List Edge) → AreBlocksOf points es blocks → even ≡ true → AreEvenOrWait cases blocks.blocks.items rows work

pub evenly_first : (entry : Status) (cases : ℕ → Case) (points : ℕ) (blocks : Blocks) (rows : List Statuses) (work : List ℕ) (even : Bool) → HaveBegun entry blocks rows work
    → SettlingEvenly entry cases points blocks rows work even
evenly_first entry cases points blocks rows work even begun = record {
  entered = λ es are e. entered_first entry cases blocks rows work begun;
  waits = λ es are e. even_first entry cases blocks rows work begun;
}

pub evenly_on : (entry : Status) (cases : ℕ → Case) (points : ℕ) (blocks : Blocks) (initial rows new : List Statuses) (number : ℕ) (before work work' : List ℕ) (even even' : Bool)
    → before ≡ work ++ number ∷ [] → ((c : ℕ) → Contains work c → Contains work' c) → Settling entry cases points blocks initial rows before
    → SettlingEvenly entry cases points blocks rows before even
    → (All (ArePoints points) blocks.blocks.items → IsTurn cases blocks.blocks.items number rows new work work')
    → (All (ArePoints points) blocks.blocks.items → IsTurnedEvenly cases blocks.blocks.items number rows new even even') → SettlingEvenly entry cases points blocks new work' even'
evenly_on entry cases points blocks initial rows new number before work work' even even' is keeps h evenly turn out = record {
  entered = λ es are e.
      let all = points_of_blocks points es blocks are in
      entered_on cases blocks.blocks.items number rows new work work' (turn all) keeps even even' (out all) e entry blocks (evenly.entered es are ((out all).out.was e));
  waits = λ es are e.
      let all = points_of_blocks points es blocks are in
      even_on cases blocks.blocks.items number rows new work work' (turn all) keeps even even' (out all) e (subst (AreOpen cases blocks.blocks.items rows) is (h.waits es are))
      (subst (AreEvenOrWait cases blocks.blocks.items rows) is (evenly.waits es are ((out all).out.was e)));
}
