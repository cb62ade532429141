mod BitLaws
mod IntervalLaws
mod ValueLaws
