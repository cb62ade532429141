use Rattle.oss_reader.proofs.WordTables.{word_of}
use Rattle.oss_reader.proofs.words.word_lead.Goals as goal

pub returns-in-1 : goal.returns-in-1
returns-in-1 c = word_of 1 c.args.text.now c.args.span _ c.in-1.is c.word_of_one.ensures

pub returns-in-2 : goal.returns-in-2
returns-in-2 c = word_of 2 c.args.text.now c.args.span _ c.in-2.is c.word_of_two.ensures

pub returns-in-3 : goal.returns-in-3
returns-in-3 c = word_of 3 c.args.text.now c.args.span _ c.in-3.is c.word_of_three.ensures

pub returns-in-4 : goal.returns-in-4
returns-in-4 c = word_of 4 c.args.text.now c.args.span _ c.in-4.is c.word_of_four.ensures

pub returns-in-5 : goal.returns-in-5
returns-in-5 c = word_of 5 c.args.text.now c.args.span _ c.in-5.is c.word_of_five.ensures

pub returns-in-6 : goal.returns-in-6
returns-in-6 c = word_of 6 c.args.text.now c.args.span _ c.in-6.is c.word_of_six.ensures

pub returns-in-7 : goal.returns-in-7
returns-in-7 c = word_of 7 c.args.text.now c.args.span _ c.in-7.is c.word_of_seven.ensures

pub returns-in-8 : goal.returns-in-8
returns-in-8 c = word_of 8 c.args.text.now c.args.span _ c.in-8.is c.word_of_eight.ensures

pub returns-in-9 : goal.returns-in-9
returns-in-9 c = word_of 9 c.args.text.now c.args.span _ c.in-9.is c.word_of_nine.ensures

pub returns-in-10 : goal.returns-in-10
returns-in-10 c = word_of 10 c.args.text.now c.args.span _ c.in-10.is c.word_of_ten.ensures

pub returns-in-12 : goal.returns-in-12
returns-in-12 c = word_of 12 c.args.text.now c.args.span _ c.in-12.is c.word_of_twelve.ensures
