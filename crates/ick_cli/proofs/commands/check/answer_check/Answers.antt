use Rattle.std.proofs.Common.{◌≡◌, ◌∙◌, ◌++◌, List, ℕ, codes, decimal, length, append_assoc, ap, subst, sym}
use Rattle.std.proofs.lemmas.List.{length-map}
use Rattle.ick_syntax.specs.Programs.{trees_of}
use Rattle.ick_syntax.specs.StatementTree.{StatementTree, polite_in}
use Rattle.ick_job.specs.Answer.{shown}
use Rattle.ick_job.specs.JobEnd.{Answers}
use Rattle.ick_cli.specs.Summary.{summary}
use Rattle.ick_cli.proofs.commands.check.answer_check.Goals as goal

line_is : (trees : List StatementTree) (statements polite : ℕ) → statements ≡ length trees → polite ≡ polite_in trees →
    decimal statements ++ (codes " STATEMENTS, " ++ (decimal polite ++ codes " POLITE\n")) ≡ summary trees
line_is trees statements polite all some =
    ap (λ n. decimal n ++ (codes " STATEMENTS, " ++ (decimal polite ++ codes " POLITE\n"))) all
    ∙ (ap (λ n. decimal (length trees) ++ (codes " STATEMENTS, " ++ (decimal n ++ codes " POLITE\n"))) some
    ∙ (sym (append_assoc (decimal (length trees)) (codes " STATEMENTS, ") (decimal (polite_in trees) ++ codes " POLITE\n"))
    ∙ sym (append_assoc (decimal (length trees) ++ codes " STATEMENTS, ") (decimal (polite_in trees)) (codes " POLITE\n"))))

pub returns-in-Ok-clause-answer : goal.returns-in-Ok-clause-answer
returns-in-Ok-clause-answer g c =
    let trees = trees_of c.args.program.now in
    let text : c.as_bytes.result.now ≡ summary trees =
    c.as_bytes.ensures.value ∙ (c.in-Ok.ensures.ok
    ∙ line_is trees _ _ (ap length c.statements.ensures ∙ sym (length-map _ _)) c.polite-polite.ensures) in
    λ told. subst (λ (output : List ℕ). Answers (shown output) c.send.result
    (g.W.ByteSink.written c.args.writer.now) (g.W.ByteSink.written c.send.new.writer)) text (c.send.ensures.answer told)
