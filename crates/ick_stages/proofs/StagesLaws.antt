-- The lines of the first statements, one statement more at a time.
use Rattle.std.proofs.Common.{◌≡◌, ◌∙◌, ℕ, ◌+◌, suc, Some, List, [], ◌∷◌, ◌++◌, length, refl, append_assoc, subst, take}
use Rattle.std.proofs.Common.{◌<◌, ap, arith, get_or, sym, false}
use Rattle.std.proofs.lemmas.List.{append-nil, length-map}
use Rattle.std.proofs.lemmas.Option.{slice_get-get_or, slice_get-map}
use Rattle.std.specs.Prelude.{Result, Ok, Err, codes, option_map, slice_get}
use Rattle.ick_code.specs.Compiled.{code_program}
use Rattle.ick_code.specs.declared.code.Code.{Code}
use Rattle.ick_explorer.specs.declared.errors.RunsError.{RunsError}
use Rattle.ick_explorer.specs.declared.errors.RunsError.TheVariants.{NoMemory, NoSuchRun, WorkFull, Failed, BadCursor}
use Rattle.ick_explorer.specs.declared.errors.RunsError.TheVariants.{Read, Write}
use Rattle.ick_lowering.specs.declared.draft.StatementDraft.{StatementDraft}
use Rattle.ick_stages.specs.Stages.{AreStages, AreWhole, HasFirst, HasStages, IsReady, Writes, all_lines, no_stage}
use Rattle.ick_stages.specs.Stages.{some_lines, stage_more}
use Rattle.ick_stages.specs.Lines.{WritesPiece, WritesText}
use Rattle.ick_stages.specs.Starts.{Starts, Reaches, one_more, behind}
use Rattle.ick_stages.specs.Writing.{HasPiece}
use Rattle.ick_inspect.specs.Positions.{texts_of}
use Rattle.ick_source.specs.Bytes.{IsGap}
use Rattle.ick_stages.specs.declared.stages.Asked.{Asked}
use Rattle.ick_stages.specs.declared.writing.Ready.{Ready}
use Rattle.ick_syntax.specs.StatementTree.{StatementTree, statement_tree_of, statement_trees}
use Rattle.ick_syntax.specs.declared.statements.Statement.{Statement}

-- bytes behind others
pub written_behind : (a b c lines piece : List ℕ) → b ≡ a ++ lines → c ≡ b ++ piece → c ≡ a ++ (lines ++ piece)
written_behind a b c lines piece first next = next ∙ (ap (λ w. w ++ piece) first ∙ append_assoc a lines piece)

take_behind : (xs ys : List ℕ) (k : ℕ) → take (length xs + k) (xs ++ ys) ≡ xs ++ take k ys
take_behind [] ys k = let same : 0 + k ≡ k = omega arith in ap (λ n. take n ys) same
take_behind (x ∷ xs) ys k =
    let same : length (x ∷ xs) + k ≡ suc (length xs + k) = omega arith in
    ap (λ n. take n (x ∷ (xs ++ ys))) same ∙ ap (λ l. x ∷ l) (take_behind xs ys k)

pub cut_behind : (a b c lines piece : List ℕ) (k : ℕ) → b ≡ a ++ lines → c ≡ b ++ take k piece →
    c ≡ a ++ take (length lines + k) (lines ++ piece)
cut_behind a b c lines piece k first next =
    written_behind a b c lines (take k piece) first next ∙ ap (λ l. a ++ l) (sym (take_behind lines piece k))

-- the lines of the first statements are written
pub record WroteFirst (ready : Ready) (source : List ℕ) (asked : Asked) (trees : List StatementTree) (n : ℕ) (d : StatementDraft)
    (before after : List ℕ) : Type 0 where
  pub lines : List ℕ
  pub stages : AreStages ready.lowered ready.traces ready.layout source asked trees n d lines
  pub written : after ≡ before ++ lines

module _ {ready : Ready} {source : List ℕ} {asked : Asked} {trees : List StatementTree} where
  pub first_none : (d : StatementDraft) (before : List ℕ) → d.subscripts.items ≡ [] → d.constants.list.items ≡ [] →
      WroteFirst ready source asked trees 0 d before before
  first_none d before subscripts constants = record {
    lines = [];
    stages = no_stage subscripts constants;
    written = sym (append-nil before);
  }

  more_stages : {n start : ℕ} {t : StatementTree} {old new : StatementDraft} {lines piece : List ℕ} →
      AreStages ready.lowered ready.traces ready.layout source asked trees n old lines →
      slice_get trees n ≡ Some t → Starts source (texts_of trees) n start →
      HasPiece ready source asked (n + 1) start t old new piece →
      AreStages ready.lowered ready.traces ready.layout source asked trees (n + 1) new (lines ++ piece)
  more_stages stages tree starts has = stage_more stages tree starts has.is has.has

  pub first_more : {n start : ℕ} {t : StatementTree} {old new : StatementDraft} {a b c : List ℕ} (piece : List ℕ) →
      WroteFirst ready source asked trees n old a b → slice_get trees n ≡ Some t →
      Starts source (texts_of trees) n start → HasPiece ready source asked (n + 1) start t old new piece →
      c ≡ b ++ piece → WroteFirst ready source asked trees (n + 1) new a c
  first_more {n} {start} {t} {old} {new} {a} {b} {c} piece first tree starts has is = record {
    lines = first.lines ++ piece;
    stages = more_stages first.stages tree starts has;
    written = is ∙ (ap (λ w. w ++ piece) first.written ∙ append_assoc a first.lines piece);
  }

  module _ {code : Code} (is : IsReady code asked ready) (own : trees ≡ code_program code) where
    first_of : {n : ℕ} {d : StatementDraft} {lines : List ℕ} →
        AreStages ready.lowered ready.traces ready.layout source asked trees n d lines →
        HasFirst code source asked n lines
    first_of {n} {d} {lines} stages = record {
      ready = ready;
      is = is;
      last = d;
      stages = subst (λ p. AreStages ready.lowered ready.traces ready.layout source asked p n d lines) own stages;
    }

    -- memory ran out behind the lines of the first statements
    pub memory_out : {n : ℕ} {d : StatementDraft} {a b c : List ℕ} → WroteFirst ready source asked trees n d a b → c ≡ b →
        (lines : List ℕ) × AreWhole code source asked lines × (c ≡ a ++ lines)
    memory_out {n} first same = (first.lines, some_lines n first.lines (first_of first.stages), same ∙ first.written)

    -- a write failed within the lines of the next statement
    pub cut_next : {n start : ℕ} {t : StatementTree} {old new : StatementDraft} {a b c : List ℕ} (piece : List ℕ) (k : ℕ) →
        WroteFirst ready source asked trees n old a b → slice_get trees n ≡ Some t →
        Starts source (texts_of trees) n start → HasPiece ready source asked (n + 1) start t old new piece →
        c ≡ b ++ take k piece →
        (lines : List ℕ) × AreWhole code source asked lines × (k : ℕ) × (c ≡ a ++ take k lines)
    cut_next {n} {start} {t} {old} {new} {a} {b} {c} piece k first tree starts has cut = (
      first.lines ++ piece,
      some_lines (n + 1) (first.lines ++ piece) (first_of (more_stages first.stages tree starts has)),
      length first.lines + k,
      cut_behind a b c first.lines piece k first.written cut,
    )

    -- all lines
    pub whole : {n : ℕ} {d : StatementDraft} {a b : List ℕ} (first : WroteFirst ready source asked trees n d a b) →
        n ≡ length (code_program code) → HasStages code source asked (first.lines ++ codes "DONE\n")
    whole first all = record {
      lines = first.lines;
      all = subst (λ k. HasFirst code source asked k first.lines) all (first_of first.stages);
      text_is = refl;
    }

    -- the last line is written, or a prefix of it
    pub ended : {T : Type 0} {n : ℕ} {d : StatementDraft} {a b : List ℕ} (c : List ℕ) (result : Result T RunsError) →
        WroteFirst ready source asked trees n d a b → n ≡ length (code_program code) →
        WritesText false (codes "DONE\n") b c result → Writes code source asked a c result
    ended {T} {n} {d} {a} {b} c (Ok _) first all w =
        (first.lines ++ codes "DONE\n", whole first all, written_behind a b c first.lines (codes "DONE\n") first.written w.1)
    ended c (Err NoMemory) first all w = memory_out first w
    ended {T} {n} {d} {a} {b} c (Err Write) first all w = (
      first.lines ++ codes "DONE\n",
      all_lines (first.lines ++ codes "DONE\n") (whole first all),
      length first.lines + w.1,
      cut_behind a b c first.lines (codes "DONE\n") w.1 first.written w.2,
    )
    ended c (Err NoSuchRun) first all w = absurd w
    ended c (Err WorkFull) first all w = absurd w
    ended c (Err Failed) first all w = absurd w
    ended c (Err BadCursor) first all w = absurd w
    ended c (Err Read) first all w = absurd w

    -- a statement's lines could not be written
    pub stopped : (T U : Type 0) (n start : ℕ) (t : StatementTree) (old new : StatementDraft) (a b c : List ℕ) (e : RunsError) →
        WroteFirst ready source asked trees n old a b → slice_get trees n ≡ Some t →
        Starts source (texts_of trees) n start →
        WritesPiece {T = T} (HasPiece ready source asked (n + 1) start t old new) b c (Err e) →
        Writes {T = U} code source asked a c (Err e)
    stopped T U n start t old new a b c NoMemory first tree starts w = memory_out first w
    stopped T U n start t old new a b c Write first tree starts w = cut_next w.0 w.2 first tree starts w.1 w.3
    stopped T U n start t old new a b c NoSuchRun first tree starts w = absurd w
    stopped T U n start t old new a b c WorkFull first tree starts w = absurd w
    stopped T U n start t old new a b c Failed first tree starts w = absurd w
    stopped T U n start t old new a b c BadCursor first tree starts w = absurd w
    stopped T U n start t old new a b c Read first tree starts w = absurd w

-- the tree of a statement of a program
pub tree_at : (found : List Statement) (program : List StatementTree) (at : ℕ) (statement : Statement)
    {all : List Statement} → found ≡ all → statement_trees all ≡ program → statement ≡ get_or found at statement →
    at < length program → slice_get program at ≡ Some (statement_tree_of statement)
tree_at found program at statement {all} alls trees is within =
    let whole : statement_trees found ≡ program = ap statement_trees alls ∙ trees in
    let size : length found ≡ length program = sym (length-map found statement_tree_of) ∙ ap length whole in
    ap (λ p. slice_get p at) (sym whole)
    ∙ (slice_get-map statement_tree_of found at
    ∙ ap (option_map statement_tree_of)
    (slice_get-get_or found at statement (omega (arith, size, within)) ∙ ap (λ s. Some s) (sym is)))

-- the next statement's text was gone through
pub reaches_more : (source : List ℕ) (program : List StatementTree) (n at start end : ℕ) (t : StatementTree) →
    Reaches source (texts_of program) n at → slice_get program n ≡ Some t → IsGap source at start →
    end ≡ behind source start t.text → Reaches source (texts_of program) (n + 1) end
reaches_more source program n at start end t reaches tree gap is =
    subst (Reaches source (texts_of program) (n + 1)) (sym is)
    (one_more reaches (slice_get-map (λ s. s.text) program n ∙ ap (option_map (λ s. s.text)) tree) gap)
