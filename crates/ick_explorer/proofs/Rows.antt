-- Worked rows, computed from the definitions: runs, listings and texts of choices.
use Rattle.std.proofs.Common.{◌≡◌, Bool, true, false, List, [], ◌∷◌, ◌++◌, refl}
use Rattle.std.specs.Prelude.{codes, replicate}
use Rattle.std.specs.Fmt.{digits}
use Rattle.ick_bits.specs.Numeral.{numeral_of, printed, symbols_of, digit_symbols, bar_line}
use Rattle.ick_bits.specs.Quoted.{quoted, escaped}
use Rattle.ick_syntax.specs.declared.body.Gerund.TheVariants.{ReadingOut}
use Rattle.ick_syntax.specs.Tree.{mesh}
use Rattle.ick_syntax.specs.StatementTree.{StatementTree}
use Rattle.ick_syntax.specs.BodyTree.{next, abstain_kinds, give_up}
use Rattle.ick_code.specs.meaning.Move.{ask, advance, first_state}
use Rattle.ick_code.proofs.RowWords.{plainly, labelled, prints}
use Rattle.ick_explorer.specs.Runs.{run, wants}
use Rattle.ick_explorer.specs.Listings.{shared}
use Rattle.ick_explorer.specs.Lines.{shown, line_of}
use Rattle.ick_explorer.specs.ChoiceTexts.{choices_text}

-- `(1) DO %50 (1) NEXT` and `DO GIVE UP`
again : List StatementTree
again = record (labelled 1 (next 1)) { chance = 50 } ∷ plainly give_up ∷ []

again_listing : List (List Bool)
again_listing =
    (false ∷ []) ∷ (true ∷ false ∷ []) ∷ (true ∷ true ∷ false ∷ []) ∷ (true ∷ true ∷ true ∷ []) ∷ []

again_text : shown again (first_state again []) 3 again_listing 1000
    ≡ codes "0 GIVE-UP \"\"\n10 GIVE-UP \"\"\n110 LIMIT \"\"\n111 LIMIT \"\"\nDONE\n"
unfolding run ask advance line_of choices_text quoted escaped again again_listing digits
again_text = refl

again_one : shown again (first_state again []) 3 again_listing 1 ≡ codes "0 GIVE-UP \"\"\nMORE\n"
unfolding run ask advance line_of choices_text quoted escaped again again_listing digits
again_one = refl

again_nothing : shown again (first_state again []) 0 ([] ∷ []) 1000 ≡ codes "- LIMIT \"\"\nDONE\n"
unfolding run ask advance line_of choices_text quoted escaped again digits
again_nothing = refl

-- a run that wants one more choice
again_wants : (run again (first_state again []) 3 (true ∷ [])).stop ≡ wants
unfolding run ask advance again digits
again_wants = refl

-- the steps of the four runs are 2, 3, 3 and 3, and neighbours share 0, 1 and 2: so the counts are 2, 5, 7 and 8
again_first : (run again (first_state again []) 3 (false ∷ [])).steps ≡ 2
unfolding run ask advance again digits
again_first = refl

again_second : shared again (first_state again []) 3 (false ∷ []) (true ∷ false ∷ []) ≡ 0
unfolding run ask advance again digits
again_second = refl

again_third : shared again (first_state again []) 3 (true ∷ false ∷ []) (true ∷ true ∷ false ∷ []) ≡ 1
unfolding run ask advance again digits
again_third = refl

again_fourth : shared again (first_state again []) 3 (true ∷ true ∷ false ∷ []) (true ∷ true ∷ true ∷ []) ≡ 2
unfolding run ask advance again digits
again_fourth = refl

-- 80 NEXTs without a RESUME
lagoon : List StatementTree
lagoon = labelled 1 (next 1) ∷ []

lagoon_text : shown lagoon (first_state lagoon []) 100 ([] ∷ []) 1000 ≡ codes "- E123@1 \"\"\nDONE\n"
unfolding run ask advance line_of choices_text quoted escaped lagoon digits
lagoon_text = refl

lagoon_steps : (run lagoon (first_state lagoon []) 100 []).steps ≡ 80
unfolding run ask advance lagoon digits
lagoon_steps = refl

lagoon_limit : shown lagoon (first_state lagoon []) 79 ([] ∷ []) 1000 ≡ codes "- LIMIT \"\"\nDONE\n"
unfolding run ask advance line_of choices_text quoted escaped lagoon digits
lagoon_limit = refl

-- a program without statements
empty_text : shown [] (first_state [] []) 10000 ([] ∷ []) 1000 ≡ codes "- E633@0 \"\"\nDONE\n"
unfolding run ask advance line_of choices_text quoted escaped digits
empty_text = refl

-- a READ OUT and an ABSTAIN FROM READING OUT by chance, before another READ OUT
quiet : List StatementTree
quiet =
    record (plainly (prints (mesh 5 ∷ []))) { chance = 50 }
    ∷ record (plainly (abstain_kinds (ReadingOut ∷ []))) { chance = 50 }
    ∷ plainly (prints (mesh 1 ∷ []))
    ∷ plainly give_up
    ∷ []

quiet_listing : List (List Bool)
quiet_listing =
    (false ∷ false ∷ []) ∷ (false ∷ true ∷ []) ∷ (true ∷ false ∷ []) ∷ (true ∷ true ∷ []) ∷ []

quiet_text : shown quiet (first_state quiet []) 100 quiet_listing 1000
    ≡ codes "00 GIVE-UP \"\\nI\\n\"\n01 GIVE-UP \"\"\n"
    ++ codes "10 GIVE-UP \"\\nV\\n\\nI\\n\"\n11 GIVE-UP \"\\nV\\n\"\nDONE\n"
unfolding run ask advance line_of choices_text quoted escaped quiet quiet_listing numeral_of symbols_of digit_symbols
    printed bar_line digits
quiet_text = refl

-- at most 64 choices are digits, and more are groups
no_choice : choices_text [] ≡ codes "-"
unfolding choices_text digits
no_choice = refl

sixty_four : choices_text (replicate 64 false)
    ≡ codes "0000000000000000000000000000000000000000000000000000000000000000"
unfolding choices_text digits
sixty_four = refl

sixty_five : choices_text (replicate 65 false) ≡ codes "0*65"
unfolding choices_text digits
sixty_five = refl

seventy_two : choices_text (replicate 70 false ++ true ∷ true ∷ []) ≡ codes "0*70,1*2"
unfolding choices_text digits
seventy_two = refl

sixty_four_and_one : choices_text (replicate 64 true ++ false ∷ []) ≡ codes "1*64,0*1"
unfolding choices_text digits
sixty_four_and_one = refl

-- a listing from a cursor on, and from the last cursor
after_ten : shown again (first_state again []) 3
    ((true ∷ true ∷ false ∷ []) ∷ (true ∷ true ∷ true ∷ []) ∷ []) 1
    ≡ codes "110 LIMIT \"\"\nMORE\n"
unfolding run ask advance line_of choices_text quoted escaped again digits
after_ten = refl

after_last : shown again (first_state again []) 3 [] 1000 ≡ codes "DONE\n"
unfolding run ask advance line_of choices_text quoted escaped again digits
after_last = refl
