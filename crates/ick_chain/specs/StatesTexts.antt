-- Defines the text of a program's chain: the states that can be reached, and where their choices lead.
use Prim.Native.Nat.{suc}
use Rattle.std.specs.Prelude.{◌≡◌, ℕ, ◌+◌, ◌-◌, Bool, List, [], ◌++◌, length, slice_get, Some, codes, decimal}
use Rattle.ick_bits.specs.Quoted.{quoted}
use Rattle.ick_code.specs.meaning.State.{State}
use Rattle.ick_code.specs.meaning.Move.{Asking, plain, choice, ended}
use Rattle.ick_backtrack.specs.Asked.{finished}
use Rattle.ick_outcomes.specs.Programs.{Program, ask}
use Rattle.ick_explorer.specs.Lines.{end_text}
use Rattle.ick_chain.specs.declared.chain.Edge.{Edge}
use Rattle.ick_chain.specs.declared.chain.Fork.{Fork}
use Rattle.ick_chain.specs.declared.chain.Node.{Node}
use Rattle.ick_chain.specs.declared.chain.Node.TheVariants.{Ends, Goes, Stuck}
use Rattle.ick_chain.specs.Chains.{IsExact, IsSolution, all_steps, never, passing}
use Rattle.ick_chain.specs.ExactTexts.{IsWeight}
use Rattle.ick_chain.specs.Numbered.{AreNumbered}
use Rattle.ick_chain.specs.Places.{IsFull, state_or}
use Rattle.ick_chain.specs.Reached.{AreDifferent, AreReached, IsReached}
use Rattle.ick_chain.specs.Stretched.{AreStretched}

-- an edge: FROM CHOICE TO CHANCE STEPS
abbrev pub edge_text : (from : ℕ) (word : List ℕ) (chance : ℕ) → Edge → List ℕ
edge_text from word chance e = codes "edge " ++ decimal from ++ word ++ decimal e.to ++ codes " " ++ decimal chance
    ++ codes " " ++ decimal e.steps ++ codes "\n"

-- the edges of a fork: one for each choice that its state asks for, or one if it asks for none
abbrev pub fork_text : ℕ → Asking → Fork → List ℕ
fork_text from (ended e) f = []
fork_text from plain f = edge_text from (codes " - ") 100 f.zero
fork_text from (choice chance) f =
    edge_text from (codes " 0 ") (100 - chance) f.zero ++ edge_text from (codes " 1 ") chance f.one

abbrev pub edges_text : ℕ → Asking → Node → List ℕ
edges_text from a Ends = []
edges_text from a (Goes f) = fork_text from a f
edges_text from a (Stuck f) = fork_text from a f

-- what a state asks: STATEMENT:CHANCE, or the statement that is met next if nothing is asked, or how the run ended
abbrev pub asking_text : State → Asking → List ℕ
asking_text s (ended e) = end_text (finished e)
asking_text s plain = decimal s.place
asking_text s (choice chance) = decimal s.place ++ codes ":" ++ decimal chance

abbrev pub kind_text : (kind : List ℕ) → ℕ → List ℕ
kind_text kind at = kind ++ decimal at ++ codes " "

abbrev pub weighed_text : (kind : List ℕ) → ℕ → (weight : List ℕ) → List ℕ
weighed_text kind at weight = kind_text kind at ++ weight ++ codes " "

-- The number of a state, behind what it is: `state` if its run goes on and may end, `end` if it has ended, `never` if
-- it never ends. The last two have the weight of the runs that end in the state, or that come to it as their first
-- state that never ends.
pub data IsHead (exact : Bool) (parts at visits : ℕ) : Node → List ℕ → Type 0 where
  goes : (f : Fork) → IsHead exact parts at visits (Goes f) (kind_text (codes "state ") at)
  over : (weight : List ℕ) → IsWeight exact visits parts weight →
      IsHead exact parts at visits Ends (weighed_text (codes "end ") at weight)
  endless : (f : Fork) (weight : List ℕ) → IsWeight exact visits parts weight →
      IsHead exact parts at visits (Stuck f) (weighed_text (codes "never ") at weight)

-- what a state asks, and what was written before it
abbrev pub rest_text : (asks output : List ℕ) → List ℕ
rest_text asks output = asks ++ codes " " ++ quoted output ++ codes "\n"

-- the line of a state, and the lines of its edges
pub record IsNodeText (p : Program) (exact : Bool) (parts at : ℕ) (s : State) (n : Node) (visits : ℕ) (text : List ℕ)
    : Type 0 where
  pub head : List ℕ
  pub is_head : IsHead exact parts at visits n head
  pub same : text ≡ head ++ rest_text (asking_text s (ask p s)) s.output ++ edges_text at (ask p s) n

-- the head of a node was appended to a text
pub record AppendsHead (exact : Bool) (parts at visits : ℕ) (n : Node) (old new : List ℕ) : Type 0 where
  pub head : List ℕ
  pub is_head : IsHead exact parts at visits n head
  pub same : new ≡ old ++ head

-- the line of a state and the lines of its edges were appended to a text
pub record AppendsNode (p : Program) (exact : Bool) (parts at : ℕ) (s : State) (n : Node) (visits : ℕ)
    (old new : List ℕ) : Type 0 where
  pub line : List ℕ
  pub is_line : IsNodeText p exact parts at s n visits line
  pub same : new ≡ old ++ line

-- the texts of the first nodes, as many as `count`
pub data AreNodeTexts (p : Program) (exact : Bool) (parts : ℕ) (states : List State) (nodes : List Node)
    (visits : List ℕ) : (count : ℕ) → List ℕ → Type 0 where
  no_node : AreNodeTexts p exact parts states nodes visits 0 []
  one_more : (at : ℕ) (text line : List ℕ) (s : State) (n : Node) (v : ℕ) →
      AreNodeTexts p exact parts states nodes visits at text → slice_get states at ≡ Some s →
      slice_get nodes at ≡ Some n → slice_get visits at ≡ Some v → IsNodeText p exact parts at s n v line →
      AreNodeTexts p exact parts states nodes visits (suc at) (text ++ line)

-- The chain of a program from s: different states that can be reached, each that asks or has ended among them. Each
-- node says what its state asks, and where it leads. `visits` has the weights, in parts
pub record IsChainOf (p : Program) (s : State) (states : List State) (nodes : List Node) (parts : ℕ) (visits : List ℕ)
    : Type 0 where
  pub first : slice_get states 0 ≡ Some s
  pub full : IsFull p states nodes
  pub different : AreDifferent states
  pub reached : AreReached p s states
  pub whole : (t : State) → IsReached p s t → (ask p t ≡ plain → ⊥) → (i : ℕ) × (slice_get states i ≡ Some t)
  pub solution : IsSolution nodes parts visits
  pub exact : IsExact p s parts (λ q. passing (λ i. q (state_or s states i)) nodes visits) (never nodes visits)
      (all_steps nodes visits)

-- the text of these nodes, which are numbered as a search by breadth meets them. Each edge leads to a choice or an end,
-- or has a step and `stretch` more without a choice
pub record IsText (p : Program) (states : List State) (nodes : List Node) (parts : ℕ) (visits : List ℕ) (stretch : ℕ)
    (exact : Bool) (text : List ℕ) : Type 0 where
  pub stretched : AreStretched nodes (stretch + 1)
  pub numbered : AreNumbered nodes (length nodes) (length nodes)
  pub lines : List ℕ
  pub are_lines : AreNodeTexts p exact parts states nodes visits (length nodes) lines
  pub same : text ≡ lines ++ codes "DONE\n"

-- the text of the chain of a program from s
pub record IsStatesText (p : Program) (s : State) (stretch : ℕ) (exact : Bool) (text : List ℕ) : Type 0 where
  pub states : List State
  pub nodes : List Node
  pub parts : ℕ
  pub visits : List ℕ
  pub is_chain : IsChainOf p s states nodes parts visits
  pub text_is : IsText p states nodes parts visits stretch exact text
