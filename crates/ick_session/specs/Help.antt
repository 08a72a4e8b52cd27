-- The answer to the command `help`.
use Rattle.std.specs.Prelude.{ℕ, List, ◌++◌, codes}

abbrev pub help_text : List ℕ
help_text =
    codes "step [N]      makes N steps, or 1\n"
    ++ codes "back [N]      takes N steps back, or 1\n"
    ++ codes "next          makes a step, and if it is a NEXT, all steps until it comes back\n"
    ++ codes "out           makes steps until the newest return address was removed\n"
    ++ codes "until N       makes steps until statement N is met next\n"
    ++ codes "run [N]       makes steps until a choice, the end or the limit, or N steps\n"
    ++ codes "break N       stops each command that makes steps in front of statement N\n"
    ++ codes "break (LABEL) does the same for the statement with this label\n"
    ++ codes "delete [N]    takes the breakpoint of statement N away, or all\n"
    ++ codes "choose 0|1    passes over the statement that asks, or does it\n"
    ++ codes "print NAME..  shows variables and arrays, such as .1 or ,2\n"
    ++ codes "eval EXPR     shows the value of an expression, such as .1 ~ #3, or its fault\n"
    ++ codes "stack         shows the NEXT stack\n"
    ++ codes "state         shows the whole state\n"
    ++ codes "list          shows the statements around the one that is met next\n"
    ++ codes "watch NAME    makes steps until one changes the name\n"
    ++ codes "why NAME      goes back to the step that last changed the name\n"
    ++ codes "output        shows what the run has printed\n"
    ++ codes "cursor        shows the choices so far, as `ick run --choices` takes them\n"
    ++ codes "help          shows this list\n"
    ++ codes "quit          ends the session\n"
    ++ codes "Each command may be cut short: s is step, b is back, br is break, sta is stack, wh is why.\n"
    ++ codes "A long run can't be stopped from here: use run N, or the program ick-tui, where any key stops it.\n"
    ++ codes "A step prints STEPS STATEMENT LINE:COLUMN TEXT: the steps so far, and the statement met next.\n"
